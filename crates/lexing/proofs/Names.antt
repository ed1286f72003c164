-- Names, letter by letter: the letters at a place, and the name that has begun there. Rests on Places and on specs/Lexing.
use mathlib.Core.Path.{◌≡◌, sym, ◌∙◌, ap}
use mathlib.Core.Bool.{true, false}
use mathlib.Core.List.{List, [], ◌∷◌, ◌++◌, append_assoc, append-nil}
use Prim.Native.Nat.{ℕ, ◌+◌, ◌<◌, ◌≤◌}
use native.Mathlib.Omega.{arith}
use lib.ListN.{length, drop, drop_of_length-le}
use lib.Seq.{slice, slice_empty}
use Rattle.meaning.specs.Basics.{choose, either}
use Rattle.text.specs.Words.{naming, between, name, is_letter, is_sign, signs, begun, told, next, last, words, words_in}
use Rattle.lexing.specs.Laws.{words-end}
use Rattle.lexing.specs.Lexing.{run, name_at, NameEnd}
use Rattle.lexing.proofs.Places.{byte, ended, here, step, slice-more}

-- the letters before a place are of the name, and what follows goes on with it
pub record Naming (bs : List ℕ) (from at : ℕ) : Type 0 where
  pub said : words (drop from bs) ≡ words_in (naming (slice from at bs)) (drop at bs)
  pub same : name_at bs from ≡ slice from at bs ++ name_at bs at
  pub onward : from < at
  pub within : at ≤ length bs

module _ (bs : List ℕ) (at : ℕ) where
  pub run_end : length bs ≤ at → name_at bs at ≡ []
  unfolding run
  run_end h = rw (drop_of_length-le bs h)

  module _ (h : at < length bs) where
    pub run-letter : is_letter (byte bs at) ≡ true → name_at bs at ≡ byte bs at ∷ name_at bs (at + 1)
    unfolding run choose
    run-letter e = ap run (here bs at h) ∙ rw e

    pub run-other : is_letter (byte bs at) ≡ false → name_at bs at ≡ []
    unfolding run choose
    run-other e = ap run (here bs at h) ∙ rw e

pub naming-begins : (bs : List ℕ) (from : ℕ) → from < length bs → is_letter (byte bs from) ≡ true → Naming bs from (from + 1)
unfolding told next begun signs is_sign choose either
naming-begins bs from h e =
    let s : slice from (from + 1) bs ≡ byte bs from ∷ [] = slice-more bs from from (omega arith) h ∙ rw (slice_empty from bs) in
    record {
      said = step bs from between h ∙ rw (e, s);
      same = rw s (run-letter bs from h e);
      onward = omega arith;
      within = omega arith;
    }

module _ (bs : List ℕ) (from at : ℕ) (n : Naming bs from at) where
  ends : words_in (naming (slice from at bs)) (drop at bs) ≡ name (slice from at bs) ∷ words (drop at bs) → name_at bs at ≡ [] → NameEnd bs from at
  ends e f = record {
    said = n.said ∙ e;
    same = n.same ∙ rw f (append-nil (slice from at bs));
    onward = n.onward;
    within = n.within;
  }

  pub naming-ends : length bs ≤ at → NameEnd bs from at
  unfolding last
  naming-ends h = ends (ended bs at (naming (slice from at bs)) h ∙ rw (words-end bs at h)) (run_end bs at h)

  module _ (h : at < length bs) where
    pub naming-more : is_letter (byte bs at) ≡ true → Naming bs from (at + 1)
    unfolding told next choose
    naming-more e =
        let k = n.onward in
        let s = slice-more bs from at (omega arith) h in
        record {
          said = n.said ∙ step bs at (naming (slice from at bs)) h ∙ rw (e, s);
          same = n.same ∙ rw (run-letter bs at h e, s) (sym (append_assoc (slice from at bs) (byte bs at ∷ []) (name_at bs (at + 1))));
          onward = omega arith;
          within = omega arith;
        }

    pub naming-other : is_letter (byte bs at) ≡ false → NameEnd bs from at
    unfolding told next choose
    naming-other e =
        ends (step bs at (naming (slice from at bs)) h ∙ rw e (ap (λ ws. name (slice from at bs) ∷ ws) (sym (step bs at between h)))) (run-other bs at h e)
