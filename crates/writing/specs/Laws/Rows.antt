-- Texts in a row: what two writers leave one after the other. Rests on Text and Lines.
use Rattle.std.specs.Prelude.{◌≡◌, refl, List, [], ◌∷◌, ◌++◌, ℕ, ◌+◌, ◌-◌, ◌≤◌, length, take, drop}
use Rattle.std.proofs.Common.{sym, ◌∙◌, ap, append_assoc, append-nil, arith, take-append-drop, drop-drop, length-take-le}
use Rattle.writing.specs.Words.{space}
use Rattle.writing.specs.Lines.{onward}
use Rattle.writing.specs.Text.{Adds, Lists}

pub nothing : (most : ℕ) (before : List ℕ) (at : ℕ) → Adds most [] before at before at
nothing most before at = record { written = sym (append-nil (take at before)); rest = refl; ahead = omega arith; short = omega arith }

pub within : (m n : ℕ) {t before after : List ℕ} {at end : ℕ} → m ≤ n → Adds m t before at after end → Adds n t before at after end
within m n h a = record { written = a.written; rest = a.rest; ahead = a.ahead; short = omega (arith, a.short) }

pub saying : {m : ℕ} (t u : List ℕ) {before after : List ℕ} {at end : ℕ} → t ≡ u → Adds m t before at after end → Adds m u before at after end
saying t u e a = rw e at a

-- buffers that are the same from a place on are so from a later one on
later : (x y : List ℕ) (p r : ℕ) → p ≤ r → drop p x ≡ drop p y → drop r x ≡ drop r y
later x y p r h e =
    let z : p + (r - p) ≡ r = omega arith in
    rw z at (sym (drop-drop (r - p) p x) ∙ ap (λ (l : List ℕ). drop (r - p) l) e ∙ drop-drop (r - p) p y)

module _ {before between after : List ℕ} {at p r m n : ℕ} where
  pub then : {t u : List ℕ} → Adds m t before at between p → Adds n u between p after r → Adds (m + n) (t ++ u) before at after r
  then {t} {u} a b =
      record {
        written = b.written ∙ ap (λ (l : List ℕ). l ++ u) a.written ∙ append_assoc (take at before) t u;
        rest = b.rest ∙ later between before p r b.ahead a.rest;
        ahead = omega (arith, a.ahead, b.ahead);
        short = omega (arith, a.short, b.short);
      }

  -- a word behind one space, and what stands behind it in its line
  pub word : {w : List ℕ} (ws : List (List ℕ)) → Adds m (space ∷ w) before at between p → Adds n (onward ws) between p after r
      → Adds (m + n) (onward (w ∷ ws)) before at after r
  unfolding onward
  word ws a b = then a b

-- a text at the front that ends within a buffer is one that the buffer lists
pub lists : (text : List ℕ) (most : ℕ) {before after : List ℕ} {end : ℕ} → Adds most text before 0 after end → most ≤ length after
    → Lists text before after end
lists text most {before} {after} {end} a h =
    let k : end ≤ length after = omega (arith, a.short) in
    let c : end ≡ length (take end after) = sym (length-take-le end after k) in
    record {
      whole = sym (take-append-drop end after) ∙ ap (λ (l : List ℕ). l ++ drop end after) a.written ∙ ap (λ (l : List ℕ). text ++ l) a.rest;
      ends = c ∙ ap length a.written;
      within = k;
      counts = c;
    }
