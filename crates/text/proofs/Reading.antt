-- Reading the words of written words gives the words. Rests on Words, Spacing and Formed.
use Rattle.std.specs.Prelude.{◌≡◌, Bool, true, false, List, [], ◌∷◌, ◌++◌, ℕ, eqb}
use Rattle.std.proofs.Math.Path.{refl}
use Rattle.std.proofs.Common.{◌∙◌, ap, append_assoc, append-nil, arith}
use Rattle.meaning.specs.Basics.{choose, both, either, every, is_empty}
use Rattle.meaning.specs.Laws.Tests.{both_true}
use Rattle.meaning.specs.Laws.Every.{Every}
use Rattle.writing.specs.Words.{line_feed, space}
use Rattle.text.specs.Words.{Word, name, sign, slash, is_letter, is_white, is_digit, within, is_sign, Mode, between, naming, begun, next, signs, told, last, words_in, words}
use Rattle.text.specs.Spacing.{spell, before, gap, onward, text}
use Rattle.text.specs.Formed.{Proper}

-- what holds of either that can be chosen
pub chosen : {A : Type 0} (P : A → Type 0) (b : Bool) (x y : A) → (b ≡ true → P x) → P y → P (choose b x y)
unfolding choose
chosen P true x y p q = p refl
chosen P false x y p q = q

-- opens the machine
unfoldable machine : Unit {0}
unfolding words_in told next begun signs is_sign choose either
machine = tt

-- Names.

run-read : (w run bs : List ℕ) → every is_letter w ≡ true → words_in (naming run) (w ++ bs) ≡ words_in (naming (run ++ w)) bs
unfolding every machine
run-read [] run bs e = rw append-nil
run-read (c ∷ w) run bs e = let t = both_true _ _ e in rw t.0 (run-read w (run ++ c ∷ []) bs t.1 ∙ rw append_assoc)

name-read : (r bs : List ℕ) → Proper (name r) → words (r ++ bs) ≡ words_in (naming r) bs
unfolding every is_empty machine
name-read [] bs p = let z : ◌≡◌ {A = ℕ} 0 1 = cc p.0 in absurd (omega arith)
name-read (c ∷ r) bs p = let t = both_true _ _ p.1 in rw t.0 (run-read r (c ∷ []) bs t.1)

-- a byte that is no letter ends a name, and is read as it is between words
name-ends : (run bs : List ℕ) (b : ℕ) → is_letter b ≡ false → words_in (naming run) (b ∷ bs) ≡ name run ∷ words (b ∷ bs)
unfolding machine
name-ends run bs b e = rw e

-- Signs.

sign-apart : (c : ℕ) → is_sign c ≡ true → (is_letter c ≡ false) × (eqb c slash ≡ false)
unfolding is_sign choose either
sign-apart c e = at (is_letter c) (is_white c) (eqb c slash) e
  where
    at : (l w s : Bool) → choose (either l (either w s)) false true ≡ true → (l ≡ false) × (s ≡ false)
    at true w s e = (cc, cc)
    at false true s e = (refl, cc)
    at false false true e = (refl, cc)
    at false false false e = (refl, refl)

sign_read : (c : ℕ) (bs : List ℕ) → is_sign c ≡ true → words (c ∷ bs) ≡ sign c ∷ words bs
unfolding words_in told next signs begun choose
sign_read c bs e = let t = sign-apart c e in rw (e, t.0, t.1)

-- What stands between two words.

-- opens the tests of bytes
unfoldable tests : Unit {0}
unfolding is_letter is_white is_digit within both machine
tests = tt

-- what holds of all that is written there
module _ (P : List ℕ → Type 0)
    (none : P []) (one : P (space ∷ [])) (line : P (line_feed ∷ [])) (item : P (line_feed ∷ space ∷ space ∷ []))
  where
    before-is : (d : ℕ) → P (before d)
    unfolding before
    before-is d = chosen P _ _ _ (λ e. none) (chosen P _ _ _ (λ e. line) (chosen P _ _ _ (λ e. item) one))

    gap_is : (p w : Word) → P (gap p w)
    unfolding gap
    gap_is (name r) (name s) = one
    gap_is (name r) (sign d) = chosen P _ _ _ (λ e. none) (before-is d)
    gap_is (sign c) (name s) = chosen P _ _ _ (λ e. none) one
    gap_is (sign c) (sign d) = chosen P _ _ _ (λ e. none) (before-is d)

-- behind a word
abbrev mode_of : Word → Mode
mode_of (name r) = naming r
mode_of (sign c) = between

gap-read : (p w : Word) (bs : List ℕ) → Proper w → words_in (mode_of p) (gap p w ++ spell w ++ bs) ≡ last (mode_of p) ++ words (spell w ++ bs)
unfolding last spell tests
gap-read (name r) (name s) bs q = unfold gap in refl
gap-read (name r) (sign d) bs q =
    gap_is (λ g. words_in (naming r) (g ++ spell (sign d) ++ bs) ≡ name r ∷ words (d ∷ bs))
    (name-ends r bs d (sign-apart d q).0) refl refl refl (name r) (sign d)
gap-read (sign c) w bs q = gap_is (λ g. words (g ++ spell w ++ bs) ≡ words (spell w ++ bs)) refl refl refl refl (sign c) w

-- Words.

-- a word at the front, where what is behind it is read as it should be
word_read : (w : Word) (bs : List ℕ) (ws : List Word) → Proper w → words_in (mode_of w) bs ≡ last (mode_of w) ++ ws
    → words (spell w ++ bs) ≡ w ∷ ws
unfolding spell last
word_read (name r) bs ws q e = name-read r bs q ∙ e
word_read (sign c) bs ws q e = sign_read c bs q ∙ ap (λ (l : List Word). sign c ∷ l) e

onward-read : (p : Word) (ws : List Word) → Every Proper ws → words_in (mode_of p) (onward p ws) ≡ last (mode_of p) ++ ws
unfolding onward
onward-read (name r) [] e = unfold last tests in refl
onward-read (sign c) [] e = unfold last tests in refl
onward-read p (w ∷ ws) e =
    gap-read p w (onward w ws) e.0 ∙ ap (λ (l : List Word). last (mode_of p) ++ l) (word_read w _ ws e.0 (onward-read w ws e.1))

pub words-text : (ws : List Word) → Every Proper ws → words (text ws) ≡ ws
unfolding text
words-text [] e = unfold words_in last in refl
words-text (w ∷ ws) e = word_read w _ ws e.0 (onward-read w ws e.1)
