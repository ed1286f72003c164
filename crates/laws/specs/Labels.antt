-- Left labels and the atoms that they are placed on: what a label's elements take, what its variables take, and the values
-- that a list of items gives. A variable keeps the value of its first item; items that each agree with the values so far agree
-- with all of them; items that agree with any assignment give its values. Rests on the meaning's Assigned and FirstMatch.
use Rattle.std.proofs.Math.Path.{◌≡◌, refl, ap}
use Rattle.std.proofs.Common.{sym, ◌∙◌, length-drop}
use Rattle.std.specs.Prelude.{Bool, eqb, leb, take, drop}
use Rattle.std.proofs.Math.Bool.{true, false}
use Rattle.std.proofs.Math.Option.{Option, some, none}
use mathlib.Core.List.{List, [], ◌∷◌, ◌++◌}
use Prim.Native.Nat.{ℕ, zero, suc, ◌+◌, ◌-◌, ◌*◌, ◌<◌, ◌≤◌}
use native.Mathlib.Omega.{arith}
use borrow.Author.Tests.{eq-eqb, ne_eqb, eqb-true, le-leb, leb-true}
use Rattle.std.proofs.Math.ListN.{length, get_or, length-append, length-take}
use Rattle.std.proofs.Math.Seq.{take-append_seam, drop-append_seam}
use Rattle.meaning.specs.Basics.{choose, either, concat}
use Rattle.meaning.specs.Image.{Rule}
use Rattle.meaning.specs.References.{is_int, takes_list, lists}
use Rattle.meaning.specs.Matching.{Assignment, atoms_of, instance}
use Rattle.meaning.specs.Assigned.{is_variable, share, spare, taken, Item, or_else, value_from}
use Rattle.meaning.specs.FirstMatch.{length_fits, label_agrees, has}
use Rattle.meaning.specs.Laws.Tests.{either_left, either-right, both_true, both_of, same_true, same_of, some_inj}
use Rattle.meaning.specs.Laws.Every.{Every}
use Rattle.meaning.specs.declared.Element.{Element}
use Rattle.meaning.specs.declared.Element.TheVariants.{Constant, Variable, Sum, Difference}

-- One label.

-- the label that a left label stands for hangs on its variables alone
module _ (α β : Assignment) where
  atoms-same : (x : Element) → ((v : ℕ) → is_variable v x ≡ true → α v ≡ β v) → atoms_of α x ≡ atoms_of β x
  unfolding atoms_of is_variable
  atoms-same (Constant c) h = refl
  atoms-same (Variable w) h = h w (eq-eqb w w refl)
  atoms-same (Sum a b) h = refl
  atoms-same (Difference a b) h = refl

  pub instance-same : (l : List Element) → ((v : ℕ) → has v l ≡ true → α v ≡ β v) → instance α l ≡ instance β l
  unfolding concat has
  instance-same [] h = refl
  instance-same (x ∷ l) h =
      let e = atoms-same x (λ v i. h v (either_left _ _ i)) in
      let f = instance-same l (λ v i. h v (either-right _ _ i)) in
      rw (e, f)

module _ (r : Rule) where
  -- a variable takes a value of a label that has it, and no value of another
  pub taken-has : (v n : ℕ) (l : List Element) (m : List ℕ) → has v l ≡ true → (a : List ℕ) × (taken r v n l m ≡ some a)
  unfolding has taken either choose
  taken-has v n [] m e = let z : ◌≡◌ {A = ℕ} 0 1 = cc in absurd (omega arith)
  taken-has v n (x ∷ l) m e = at (is_variable v x) e (taken-has v n l _)
    where
      at : (b : Bool) → either b (has v l) ≡ true → (has v l ≡ true → (a : List ℕ) × (taken r v n l (drop (share r n x) m) ≡ some a))
          → (a : List ℕ) × (choose b (some (take (share r n x) m)) (taken r v n l (drop (share r n x) m)) ≡ some a)
      at true e ih = (_, refl)
      at false e ih = ih e

  pub taken_not : (v n : ℕ) (l : List Element) (m : List ℕ) → has v l ≡ false → taken r v n l m ≡ none
  unfolding has taken either choose
  taken_not v n [] m e = refl
  taken_not v n (x ∷ l) m e = at (is_variable v x) e (taken_not v n l _)
    where
      at : (b : Bool) → either b (has v l) ≡ false → (has v l ≡ false → taken r v n l (drop (share r n x) m) ≡ none)
          → choose b (some (take (share r n x) m)) (taken r v n l (drop (share r n x) m)) ≡ none
      at true e ih = let z : ◌≡◌ {A = ℕ} 0 1 = cc in absurd (omega arith)
      at false e ih = ih e

  -- how many atoms a label's elements take, where a list takes n of them
  unfoldable pub need : ℕ → List Element → ℕ
  need n [] = 0
  need n (x ∷ l) = share r n x + need n l

  need-lists : (n : ℕ) (l : List Element) → lists r l + need n l ≡ length l + lists r l * n
  unfolding need lists choose
  need-lists n [] = omega arith
  need-lists n (x ∷ l) = at (takes_list r x) (need-lists n l)
    where
      at : (b : Bool) → lists r l + need n l ≡ length l + lists r l * n
          → choose b (suc (lists r l)) (lists r l) + (choose b n 1 + need n l) ≡ suc (length l) + choose b (suc (lists r l)) (lists r l) * n
      at true e = omega arith
      at false e = omega arith

  lists_length : (l : List Element) → lists r l ≤ length l
  unfolding lists choose
  lists_length [] = omega arith
  lists_length (x ∷ l) = at (takes_list r x) (lists_length l)
    where
      at : (b : Bool) → lists r l ≤ length l → choose b (suc (lists r l)) (lists r l) ≤ suc (length l)
      at true e = omega arith
      at false e = omega arith

  -- what fits is what the elements take
  pub fits-need : (l : List Element) (m : List ℕ) → lists r l ≤ 1 → length_fits r l m ≡ true → need (spare r l (length m)) l ≡ length m
  unfolding length_fits choose
  fits-need l m h e = at (lists r l) h e (need-lists (spare r l (length m)) l) (lists_length l)
    where
      at : (k : ℕ) → k ≤ 1 → choose (eqb k 0) (eqb (length m) (length l)) (leb (length l - k) (length m)) ≡ true
          → k + need (length m - (length l - k)) l ≡ length l + k * (length m - (length l - k))
          → k ≤ length l → need (length m - (length l - k)) l ≡ length m
      at zero h e f g = let i = eqb-true (length m) (length l) e in omega arith
      at (suc zero) h e f g = let i = leb-true (length l - 1) (length m) e in omega arith
      at (suc (suc k)) h e f g = absurd (omega arith)

  -- an int takes one atom
  int-share : (v n : ℕ) (x : Element) → is_variable v x ≡ true → is_int r v ≡ true → share r n x ≡ 1
  unfolding is_variable takes_list choose
  int-share v n (Constant c) e i = refl
  int-share v n (Sum a b) e i = refl
  int-share v n (Difference a b) e i = refl
  int-share v n (Variable w) e i =
      let f : w ≡ v = eqb-true w v e in
      let g : get_or r.variables v 0 ≡ 1 = eqb-true _ _ i in
      rw (f, g)

  pub taken-int : (v n : ℕ) (l : List Element) (m a : List ℕ) → is_int r v ≡ true → need n l ≤ length m → taken r v n l m ≡ some a
      → length a ≡ 1
  unfolding need taken choose
  taken-int v n [] m a i h e = let z : ◌≡◌ {A = ℕ} 0 1 = cc in absurd (omega arith)
  taken-int v n (x ∷ l) m a i h e =
      at (is_variable v x) refl e (taken-int v n l _ a i (rw (length-drop (share r n x) m) (omega arith)))
    where
      at : (b : Bool) → is_variable v x ≡ b → choose b (some (take (share r n x) m)) (taken r v n l (drop (share r n x) m)) ≡ some a
          → (taken r v n l (drop (share r n x) m) ≡ some a → length a ≡ 1) → length a ≡ 1
      at true q e ih =
          let f : share r n x ≡ 1 = int-share v n x q i in
          ap length (some_inj a (take (share r n x) m) (sym e)) ∙ length-take (share r n x) m ∙ omega arith
      at false q e ih = ih e

  -- An assignment that agrees with a label.

  module _ (β : Assignment) where
    -- each element but a list variable stands for one atom
    abbrev pub Singles : List Element → Type 0
    Singles l = Every (λ x. takes_list r x ≡ false → length (atoms_of β x) ≡ 1) l

    -- where a list takes n atoms, each element takes the atoms that it stands for
    abbrev Shares : ℕ → List Element → Type 0
    Shares n l = Every (λ x. share r n x ≡ length (atoms_of β x)) l

    -- at least one atom for each element that is no list variable
    instance-length : (l : List Element) → Singles l → length l ≤ lists r l + length (instance β l)
    unfolding lists choose concat
    instance-length [] s = omega arith
    instance-length (x ∷ l) s = at (takes_list r x) refl (instance-length l s.1)
      where
        at : (b : Bool) → takes_list r x ≡ b → length l ≤ lists r l + length (instance β l)
            → suc (length l) ≤ choose b (suc (lists r l)) (lists r l) + length (atoms_of β x ++ instance β l)
        at true q h = rw length-append (omega arith)
        at false q h = let g = s.0 q in rw length-append (omega arith)

    -- a label with no list variable stands for one atom an element
    plain-length : (l : List Element) → Singles l → lists r l ≡ 0 → length (instance β l) ≡ length l
    unfolding lists choose concat
    plain-length [] s e = refl
    plain-length (x ∷ l) s e = at (takes_list r x) refl e (plain-length l s.1)
      where
        at : (b : Bool) → takes_list r x ≡ b → choose b (suc (lists r l)) (lists r l) ≡ 0
            → (lists r l ≡ 0 → length (instance β l) ≡ length l) → length (atoms_of β x ++ instance β l) ≡ suc (length l)
        at true q e ih = absurd (omega arith)
        at false q e ih = let g = s.0 q in let k = ih e in rw length-append (omega arith)

    shares : (n : ℕ) (l : List Element) → Singles l → lists r l ≤ 1 → need n l ≡ length (instance β l) → Shares n l
    unfolding lists choose concat need
    shares n [] s h e = tt
    shares n (x ∷ l) s h e =
        at (takes_list r x) refl h (rw length-append at e) (shares n l s.1) (plain-length l s.1) (need-lists n l)
      where
        at : (b : Bool) → takes_list r x ≡ b → choose b (suc (lists r l)) (lists r l) ≤ 1
            → choose b n 1 + need n l ≡ length (atoms_of β x) + length (instance β l)
            → (lists r l ≤ 1 → need n l ≡ length (instance β l) → Shares n l) → (lists r l ≡ 0 → length (instance β l) ≡ length l)
            → lists r l + need n l ≡ length l + lists r l * n → (choose b n 1 ≡ length (atoms_of β x)) × Shares n l
        at true q h e ih f g =
            let z : lists r l ≡ 0 = omega arith in
            let k = f z in
            let i : 0 + need n l ≡ length l + 0 * n = rw z at g in
            (omega arith, ih (omega arith) (omega arith))
        at false q h e ih f g = let k = s.0 q in (sym k, ih h (omega arith))

    -- a variable takes what it stands for
    variable-atoms : (v : ℕ) (x : Element) → is_variable v x ≡ true → atoms_of β x ≡ β v
    unfolding is_variable atoms_of
    variable-atoms v (Constant c) e = let z : ◌≡◌ {A = ℕ} 0 1 = cc in absurd (omega arith)
    variable-atoms v (Variable w) e = ap β (eqb-true w v e)
    variable-atoms v (Sum a b) e = let z : ◌≡◌ {A = ℕ} 0 1 = cc in absurd (omega arith)
    variable-atoms v (Difference a b) e = let z : ◌≡◌ {A = ℕ} 0 1 = cc in absurd (omega arith)

    shared : (v n : ℕ) (l : List Element) → Shares n l → has v l ≡ true → taken r v n l (instance β l) ≡ some (β v)
    unfolding has taken either concat choose
    shared v n [] s e = let z : ◌≡◌ {A = ℕ} 0 1 = cc in absurd (omega arith)
    shared v n (x ∷ l) s e =
        rw (s.0, take-append_seam, drop-append_seam) (at (is_variable v x) refl e (shared v n l s.1))
      where
        at : (b : Bool) → is_variable v x ≡ b → either b (has v l) ≡ true
            → (has v l ≡ true → taken r v n l (instance β l) ≡ some (β v))
            → choose b (some (atoms_of β x)) (taken r v n l (instance β l)) ≡ some (β v)
        at true q e ih = ap some (variable-atoms v x q)
        at false q e ih = ih e

    pub fits-instance : (l : List Element) → Singles l → length_fits r l (instance β l) ≡ true
    unfolding length_fits choose
    fits-instance l s = at (lists r l) (plain-length l s) (instance-length l s)
      where
        at : (k : ℕ) → (k ≡ 0 → length (instance β l) ≡ length l) → length l ≤ k + length (instance β l)
            → choose (eqb k 0) (eqb (length (instance β l)) (length l)) (leb (length l - k) (length (instance β l))) ≡ true
        at zero f g = eq-eqb _ _ (f refl)
        at (suc k) f g = rw (ne_eqb (suc k) 0 (λ e. omega arith)) (le-leb (length l - suc k) _ (omega arith))

    pub taken-instance : (v : ℕ) (l : List Element) → Singles l → lists r l ≤ 1 → has v l ≡ true
        → taken r v (spare r l (length (instance β l))) l (instance β l) ≡ some (β v)
    taken-instance v l s h e = shared v _ l (shares _ l s h (fits-need l _ h (fits-instance l s))) e

-- Items.

abbrev pub no_item : Item
no_item = record { pattern = []; atoms = [] }

module _ (r : Rule) where
  -- what variable v takes of an item
  abbrev takes : ℕ → Item → Option (List ℕ)
  takes v x = taken r v (spare r x.pattern (length x.atoms)) x.pattern x.atoms

  -- a variable has the value that it takes at its first item
  pub value-take : (v n i : ℕ) (is : List Item) → i < n → has v (get_or is i no_item).pattern ≡ true
      → value_from r (take n is) v ≡ value_from r is v
  unfolding value_from has or_else
  value-take v zero i is h e = absurd (omega arith)
  value-take v (suc n) i [] h e = refl
  value-take v (suc n) zero (x ∷ is) h e = rw (taken-has r v _ x.pattern x.atoms e).1
  value-take v (suc n) (suc i) (x ∷ is) h e = rw (value-take v n i is (omega arith) e)

  -- an int has one atom, where the labels fit
  pub value-int : (v : ℕ) (is : List Item) → is_int r v ≡ true
      → ((i : ℕ) → i < length is → lists r (get_or is i no_item).pattern ≤ 1)
      → ((i : ℕ) → i < length is → length_fits r (get_or is i no_item).pattern (get_or is i no_item).atoms ≡ true)
      → length (value_from r is v) ≡ 1
  unfolding value_from or_else choose
  value-int v [] e s f = rw e
  value-int v (x ∷ is) e s f =
      at (takes v x) refl
      (value-int v is e (λ i k. s (suc i) (omega arith)) (λ i k. f (suc i) (omega arith)))
    where
      at : (o : Option (List ℕ)) → takes v x ≡ o → length (value_from r is v) ≡ 1 → length (or_else o (value_from r is v)) ≡ 1
      at none q ih = ih
      at (some a) q ih =
          let g = fits-need r x.pattern x.atoms (s 0 (omega arith)) (f 0 (omega arith)) in
          taken-int r v _ x.pattern x.atoms a e (omega arith) q

  module _ (β : Assignment) where
    -- the item stands for its atoms under β
    pub record Agrees (x : Item) : Type 0 where
      pub singles : Singles r β x.pattern
      pub simple : lists r x.pattern ≤ 1
      pub equal : x.atoms ≡ instance β x.pattern

    first-agrees : (v : ℕ) (x : Item) → Agrees x → has v x.pattern ≡ true → takes v x ≡ some (β v)
    first-agrees v x a e = rw a.equal (taken-instance r β v x.pattern a.singles a.simple e)

    -- items that stand for their atoms under β give β's values
    pub value-agrees : (v i : ℕ) (is : List Item) → ((j : ℕ) → j < length is → Agrees (get_or is j no_item))
        → i < length is → has v (get_or is i no_item).pattern ≡ true → value_from r is v ≡ β v
    unfolding value_from or_else
    value-agrees v i [] g h e = absurd (omega arith)
    value-agrees v zero (x ∷ is) g h e = rw (first-agrees v x (g 0 (omega arith)) e)
    value-agrees v (suc i) (x ∷ is) g h e =
        at (has v x.pattern) refl (value-agrees v i is (λ j k. g (suc j) (omega arith)) (omega arith) e)
      where
        at : (b : Bool) → has v x.pattern ≡ b → value_from r is v ≡ β v → or_else (takes v x) (value_from r is v) ≡ β v
        at true q ih = rw (first-agrees v x (g 0 (omega arith)) q)
        at false q ih = rw (taken_not r v (spare r x.pattern (length x.atoms)) x.pattern x.atoms q) ih

  -- each item agrees with the values so far: with all of them
  pub value-equal : (i : ℕ) (is : List Item)
      → label_agrees r (value_from r (take (suc i) is)) (get_or is i no_item).pattern (get_or is i no_item).atoms ≡ true
      → (get_or is i no_item).atoms ≡ instance (value_from r is) (get_or is i no_item).pattern
  unfolding label_agrees
  value-equal i is e =
      same_true _ _ (both_true _ _ e).1
      ∙ instance-same _ _ (get_or is i no_item).pattern (λ v q. value-take v (suc i) i is (omega arith) q)

  -- each item agrees with β: so with the values so far
  pub labels-agree : (β : Assignment) (i : ℕ) (is : List Item) → ((j : ℕ) → j < length is → Agrees β (get_or is j no_item))
      → i < length is → label_agrees r (value_from r (take (suc i) is)) (get_or is i no_item).pattern (get_or is i no_item).atoms ≡ true
  unfolding label_agrees
  labels-agree β i is g h =
      let a = g i h in
      rw a.equal
      (both_of _ _ (fits-instance r β _ a.singles)
      (same_of _ _ (sym (instance-same (value_from r (take (suc i) is)) β _ (λ v q.
      value-take v (suc i) i is (omega arith) q ∙ value-agrees β v i is g h q)))))
