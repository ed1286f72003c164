-- Comments, byte by byte: what a slash is, and where a comment ends. Rests on Places and on specs/Lexing.
use mathlib.Core.Path.{◌≡◌, sym, ◌∙◌, ap}
use mathlib.Core.Bool.{Bool, true, false}
use mathlib.Core.List.{List, ◌∷◌}
use mathlib.Core.Logic.{◌⊎◌, inl, inr}
use Prim.Native.Nat.{ℕ, ◌+◌, ◌<◌, ◌≤◌}
use native.Mathlib.Omega.{arith}
use borrow.Author.Tests.{eq-eqb, ne_eqb}
use lib.Dec.{eqb}
use lib.ListN.{length, drop}
use Rattle.meaning.specs.Basics.{choose, both, either}
use Rattle.writing.specs.Words.{line_feed}
use Rattle.text.specs.Words.{sign, slash, star, within, is_digit, is_letter, is_white, words, words_in}
use Rattle.text.specs.Words.{Mode, between, slashed, aside, inside, starred, begun, next, is_sign, signs, told, last}
use Rattle.lexing.specs.declared.Slash.{Slash}
use Rattle.lexing.specs.declared.Slash.TheVariants.{Comment, Alone}
use Rattle.lexing.specs.Laws.{words-end}
use Rattle.lexing.specs.Lexing.{CommentEnd, AtSlash}
use Rattle.lexing.proofs.Places.{byte, ended, step}

-- in a comment, behind a star or not
abbrev pub commented : Bool → Mode
commented s = choose s starred inside

module _ (bs : List ℕ) (at : ℕ) where
  -- in a comment that ends with its line

  pub aside_end : length bs ≤ at → words_in aside (drop at bs) ≡ words (drop at bs)
  unfolding last
  aside_end h = ended bs at aside h ∙ sym (words-end bs at h)

  -- in a comment that ends with a star and a slash

  pub comment_end : (s : Bool) → length bs ≤ at → words_in (commented s) (drop at bs) ≡ sign slash ∷ words (drop at bs)
  unfolding last choose
  comment_end true h = ended bs at starred h ∙ ap (λ ws. sign slash ∷ ws) (sym (words-end bs at h))
  comment_end false h = ended bs at inside h ∙ ap (λ ws. sign slash ∷ ws) (sym (words-end bs at h))

  -- behind a slash

  pub slash-end : length bs ≤ at → words_in slashed (drop at bs) ≡ sign slash ∷ words (drop at bs)
  unfolding last
  slash-end h = ended bs at slashed h ∙ ap (λ ws. sign slash ∷ ws) (sym (words-end bs at h))

  module _ (h : at < length bs) where
    pub aside_feed : byte bs at ≡ line_feed → words_in aside (drop at bs) ≡ words (drop (at + 1) bs)
    unfolding told next choose
    aside_feed e = step bs at aside h ∙ rw (eq-eqb (byte bs at) line_feed e)

    pub aside-more : (byte bs at ≡ line_feed → ⊥) → words_in aside (drop at bs) ≡ words_in aside (drop (at + 1) bs)
    unfolding told next choose
    aside-more e = step bs at aside h ∙ rw (ne_eqb (byte bs at) line_feed e)

    pub comment_closed : (s : Bool) → s ≡ true → eqb (byte bs at) slash ≡ true → words_in (commented s) (drop at bs) ≡ words (drop (at + 1) bs)
    unfolding told next choose
    comment_closed s e f = rw e (step bs at starred h ∙ rw f)

    pub comment_more : (s : Bool) → (eqb (byte bs at) slash ≡ false) ⊎ (s ≡ false)
        → words_in (commented s) (drop at bs) ≡ words_in (commented (eqb (byte bs at) star)) (drop (at + 1) bs)
    unfolding told next choose
    comment_more true (inl e) = step bs at starred h ∙ rw e
    comment_more true (inr e) = let z : ◌≡◌ {A = ℕ} 0 1 = cc in absurd (omega arith)
    comment_more false e = step bs at inside h

    pub slash-first : byte bs at ≡ slash → words (drop at bs) ≡ words_in slashed (drop (at + 1) bs)
    unfolding told next begun signs is_sign is_letter is_digit is_white within choose both either
    slash-first e = step bs at between h ∙ rw e

    pub slash-twice : byte bs at ≡ slash → words_in slashed (drop at bs) ≡ words_in aside (drop (at + 1) bs)
    unfolding told next choose either
    slash-twice e = step bs at slashed h ∙ rw e

    pub slash-star : byte bs at ≡ star → words_in slashed (drop at bs) ≡ words_in inside (drop (at + 1) bs)
    unfolding told next choose either
    slash-star e = step bs at slashed h ∙ rw e

    pub slash-alone : (byte bs at ≡ slash → ⊥) → (byte bs at ≡ star → ⊥) → words_in slashed (drop at bs) ≡ sign slash ∷ words (drop at bs)
    unfolding told next choose either
    slash-alone e f =
        step bs at slashed h ∙ rw (ne_eqb (byte bs at) slash e, ne_eqb (byte bs at) star f) (ap (λ ws. sign slash ∷ ws) (sym (step bs at between h)))

-- What the code finds at a slash.

pub comment_found : (bs : List ℕ) (at from : ℕ) (r : Slash) → words (drop at bs) ≡ words_in inside (drop from bs) → at < from
    → CommentEnd bs from r → AtSlash bs at r
comment_found bs at from (Comment to) e h c = let k = c.1 in (e ∙ c.0, omega arith, c.2)
comment_found bs at from (Alone to) e h c = let k = c.1 in (e ∙ c.0, omega arith, c.2)
