-- Laws of Values, one for each answer of the code: heights, the values of variables, labels joined and the walk along a label.
-- Rests on Values, on labels' Laws, on parts' Walks and on laws' Numbers.
use Rattle.std.proofs.Math.Path.{◌≡◌, refl, sym, ap}
use Rattle.std.proofs.Common.{◌∙◌, append_assoc, append-nil, le-leb, lt-ltb, le-ltb, length-append, get_or-take}
use Rattle.std.specs.Prelude.{List, [], ◌∷◌, ◌++◌, ℕ, ◌+◌, ◌-◌, ◌*◌, ◌<◌, ◌≤◌, leb, ltb, length, get_or, take, drop, Option as Maybe, Some, None, IsSome, is_some as there}
use Rattle.std.proofs.Math.Option.{Option, some, none}
use native.Mathlib.Omega.{arith}
use Rattle.std.proofs.Common.{rules}
use Rattle.std.proofs.Math.Decide.{dec_lt}
use Rattle.std.proofs.lemmas.Bool.{lt-leb}
use Rattle.std.proofs.Math.ListN.{get_or-eq_default}
use Rattle.std.proofs.Math.Seq.{take_at}
use Rattle.meaning.specs.Basics.{both, is_some, concat, ensure, each, ◌>>◌, ◌>>=◌}
use Rattle.meaning.specs.Numbers.{half, whole, height, sum, difference}
use Rattle.meaning.specs.Layout.{most_atoms}
use Rattle.meaning.specs.Image.{label, limits}
use Rattle.meaning.specs.Matching.{Assignment, atom_of}
use Rattle.meaning.specs.Applying.{element_value, label_value}
use Rattle.meaning.specs.Laws.Tests.{both_of, both-no, both_yes, ensure-some, ensure-yes, ensure-no, some_inj}
use Rattle.laws.specs.Layout.{Words}
use Rattle.laws.specs.Numbers.{height_lt}
use Rattle.laws.specs.Values.{Words-take, Words-append}
use Rattle.fields.specs.Image.{first-at}
use Rattle.meaning.specs.declared.Operand.{Operand}
use Rattle.meaning.specs.declared.Operand.TheVariants.{Constant as constant_operand, Variable as variable_operand}
use Rattle.meaning.specs.declared.Element.{Element}
use Rattle.meaning.specs.declared.Element.TheVariants.{Constant, Variable, Sum, Difference}
use Rattle.labels.specs.Labels.{atoms_in, Held, Holds}
use Rattle.parts.specs.Elements.{Spells, Next}
use Rattle.labels.specs.Laws.{held-length}
use Rattle.parts.specs.Walks.{spells_label}
use Rattle.labels.specs.declared.Label.{Label}
use Rattle.parts.specs.Series.{For}
use Rattle.values.specs.Values.{values_of, Stored, as_option, lowered, of_atom, value_in, Short, fitting}

-- Heights.

-- a value that is there where two orders hold
module _ (p q r s c : ℕ) where
  abbrev within : Option ℕ
  within = ensure (both (leb p q) (ltb r s)) >> some c

  within-yes : p ≤ q → r < s → within ≡ some c
  within-yes h k = ensure-yes _ _ (both_of _ _ (le-leb p q h) (lt-ltb r s k))

  within_low : q < p → within ≡ none
  within_low h = ensure-no _ _ (both-no _ _ (lt-leb p q h))

  within_high : p ≤ q → s ≤ r → within ≡ none
  within_high h k = ensure-no _ _ (both_yes _ _ (le-leb p q h) ∙ le-ltb r s k)

module _ (h : ℕ) where
  pub lowered-low : h < half → none ≡ lowered h
  unfolding lowered
  lowered-low k = sym (within_low half h h (whole + half) (height (h - half)) k)

  pub lowered_high : half ≤ h → whole + half ≤ h → none ≡ lowered h
  unfolding lowered
  lowered_high k l = sym (within_high half h h (whole + half) (height (h - half)) k l)

  pub lowered-at : (x : ℕ) → half ≤ h → h < whole + half → x ≡ height (h - half) → some x ≡ lowered h
  unfolding lowered
  lowered-at x k l e = sym (within-yes half h h (whole + half) (height (h - half)) k l ∙ ap some (sym e))

pub sum-lowered : (a b x y : ℕ) → x ≡ height a → y ≡ height b → lowered (x + y) ≡ sum a b
unfolding lowered sum
sum-lowered a b x y p q = rw (p, q)

module _ (a b : ℕ) where
  -- the height of the difference, plus 2^31; and the difference
  abbrev raised : ℕ
  raised = height a + whole - height b

  abbrev apart : ℕ
  apart = height (height a + half - height b)

  difference-at : height a < whole → height b < whole → Dec (height a + half < height b) → Dec (height a < height b + half)
      → lowered raised ≡ difference a b
  unfolding difference
  difference-at k l (yes m) n =
      sym (lowered-low raised (omega arith)) ∙ sym (within_low (height b) (height a + half) (height a) (height b + half) apart m)
  difference-at k l (no m) (no n) =
      sym (lowered_high raised (omega arith) (omega arith))
      ∙ sym (within_high (height b) (height a + half) (height a) (height b + half) apart (omega arith) (omega arith))
  difference-at k l (no m) (yes n) =
      let z : height a + half - height b ≡ raised - half = omega arith in
      sym (lowered-at raised apart (omega arith) (omega arith) (ap height z))
      ∙ sym (within-yes (height b) (height a + half) (height a) (height b + half) apart (omega arith) n)

  pub difference-lowered : (x y : ℕ) → x ≡ height a → y ≡ height b → lowered (x + whole - y) ≡ difference a b
  difference-lowered x y p q =
      rw (p, q)
      (difference-at (height_lt a) (height_lt b) (dec_lt (height a + half) (height b)) (dec_lt (height a) (height b + half)))

-- The values of variables.

module _ (lens atoms : List ℕ) (v : ℕ) where
  no-atoms : get_or lens v 0 ≡ 0 → values_of lens atoms v ≡ []
  no-atoms e = rw e

  pub first-none : get_or lens v 0 ≡ 0 → 0 ≡ get_or (values_of lens atoms v) 0 0
  first-none e = rw (no-atoms e)

  pub first_some : (get_or lens v 0 ≡ 0 → ⊥) → get_or atoms (most_atoms * v) 0 ≡ get_or (values_of lens atoms v) 0 0
  first_some h = sym (get_or-take (get_or lens v 0) (drop (most_atoms * v) atoms) 0 0 (omega arith) ∙ first-at atoms (most_atoms * v))

  pub far : Stored lens atoms → limits.variables ≤ v → get_or lens v 0 ≡ 0
  far s h = get_or-eq_default lens 0 (omega (arith, s.variables))

  pub first-far : Stored lens atoms → limits.variables ≤ v → 0 ≡ get_or (values_of lens atoms v) 0 0
  first-far s h = first-none (far s h)

  pub value-far : (r : Label) → Stored lens atoms → limits.variables ≤ v → Holds [] r → Holds (values_of lens atoms v) r
  value-far r s h k = rw (no-atoms (far s h)) k

-- A value in hand.

module _ (v : Maybe Label) where
  pub value-held : (a : Label) → v ≡ Some a → value_in v ≡ some (atoms_in a)
  value-held a e = ap value_in e

  pub value_not : v ≡ None → value_in v ≡ none
  value_not e = ap value_in e

-- whether there is a value is whether there is a label
pub value-is : (v : Maybe Label) → there v ≡ is_some (value_in v)
unfolding is_some
value-is (Some a) = refl
value-is None = refl

-- a value that is there is the label's
pub value-some : (v : Maybe Label) (m : List ℕ) → value_in v ≡ some m → (a : Label) × (v ≡ Some a) × (atoms_in a ≡ m)
value-some (Some a) m e = (a, refl, some_inj (atoms_in a) m e)
value-some None m e = let z : ◌≡◌ {A = ℕ} 0 1 = cc in absurd (omega arith)

pub value-there : (v : Maybe Label) (m : List ℕ) → value_in v ≡ some m → IsSome v
value-there (Some a) m e = search rules
value-there None m e = let z : ◌≡◌ {A = ℕ} 0 1 = cc in absurd (omega arith)

-- so the label tells of whatever the value is read from
pub held_for : {A : Type 0} (v : Maybe Label) (o : Option A) (f : A → Option (List ℕ)) → For o (λ a. value_in v ≡ f a) → For o (λ a. there v ≡ is_some (f a))
held_for v o f h a e = value-is v ∙ ap is_some (h a e)

pub kept_label : (a : Label) (m : List ℕ) → Holds m a → Short most_atoms a
kept_label a m h = record { held = h.held; few = h.held.few }

pub value-one : (a : Label) (m : List ℕ) → Holds m a → value_in (Some a) ≡ some m
value-one a m h = ap some h.atoms

-- Operands and elements, by their kind.

module _ (α : Assignment) (o : Operand) (x : ℕ) where
  pub atom-constant : o ≡ constant_operand x → x ≡ atom_of α o
  unfolding atom_of
  atom-constant e = rw e

  pub atom-variable : (v : ℕ) → o ≡ variable_operand v → x ≡ get_or (α v) 0 0 → x ≡ atom_of α o
  unfolding atom_of
  atom-variable v e q = rw e q

module _ (a : Maybe ℕ) where
  pub word_value : (x : ℕ) (r : Label) → a ≡ Some x → Holds (x ∷ []) r → value_in (Some r) ≡ of_atom (as_option a)
  unfolding ◌>>=◌
  word_value x r e h = rw e (value-one r (x ∷ []) h)

  pub outside-value : a ≡ None → value_in None ≡ of_atom (as_option a)
  unfolding ◌>>=◌
  outside-value e = rw e

module _ (α : Assignment) (e : Element) where
  pub element-constant : (x : ℕ) (r : Label) → e ≡ Constant x → Holds (x ∷ []) r → value_in (Some r) ≡ element_value α e
  unfolding element_value
  element-constant x r q h = rw q (value-one r (x ∷ []) h)

  pub element-variable : (v : ℕ) (r : Label) → e ≡ Variable v → Holds (α v) r → value_in (Some r) ≡ element_value α e
  unfolding element_value
  element-variable v r q h = rw q (value-one r (α v) h)

  module _ (a b : Operand) (x y : ℕ) (s : Maybe ℕ) (o : Option (List ℕ)) (p : x ≡ atom_of α a) (q : y ≡ atom_of α b) (w : o ≡ of_atom (as_option s)) where
    pub element-sum : e ≡ Sum a b → as_option s ≡ sum x y → o ≡ element_value α e
    unfolding element_value
    element-sum t z = w ∙ rw (z, t, p, q)

    pub element-difference : e ≡ Difference a b → as_option s ≡ difference x y → o ≡ element_value α e
    unfolding element_value
    element-difference t z = w ∙ rw (z, t, p, q)

-- Labels joined.

pub fitting-yes : (most : ℕ) (m : List ℕ) → length m ≤ most → fitting most m ≡ some m
unfolding fitting
fitting-yes most m h = ensure-yes _ _ (le-leb _ _ h)

pub fitting-no : (most : ℕ) (m : List ℕ) → most < length m → fitting most m ≡ none
unfolding fitting
fitting-no most m h = ensure-no _ _ (lt-leb _ _ h)

-- what is said of atoms that a label holds, or does not hold
fitting-some : (most : ℕ) (m n : List ℕ) → fitting most m ≡ some n → n ≡ m
unfolding fitting
fitting-some most m n e = sym (some_inj m n (ensure-some (leb (length m) most) _ n e).1)

fitting-none : (most : ℕ) (m : List ℕ) → fitting most m ≡ none → most < length m
fitting-none most m e = at (dec_lt most (length m))
  where
    at : Dec (most < length m) → most < length m
    at (yes h) = h
    at (no h) =
        let k = fitting-yes most m (omega arith) in
        let z : ◌≡◌ {A = ℕ} 0 1 = cc in
        absurd (omega arith)

pub empty-few : (a : Label) (most : ℕ) → Holds [] a → a.len ≤ most
empty-few a most h = omega (arith, held-length a h.held, ap length h.atoms)

module _ (a b : Label) (h : Held a) (k : Held b) where
  joined_length : length (atoms_in a ++ atoms_in b) ≡ a.len + b.len
  joined_length = length-append (atoms_in a) (atoms_in b) ∙ rw (held-length a h, held-length b k)

  -- label a's atoms, then label b's, then the rest of the room
  pub joined-all : (t : List ℕ) → Words t → a.len + b.len + length t ≡ most_atoms
      → Holds (atoms_in a ++ atoms_in b) (record { len = a.len + b.len; atoms = atoms_in a ++ (atoms_in b ++ t) })
  joined-all t w r =
      let e = joined_length in
      record {
        held = record {
          few = omega arith;
          room = length-append (atoms_in a) (atoms_in b ++ t) ∙ rw (length-append (atoms_in b) t, held-length a h, held-length b k) (omega arith);
          small = Words-append (atoms_in a) (atoms_in b ++ t) (Words-take a.len a.atoms h.small) (Words-append (atoms_in b) t (Words-take b.len b.atoms k.small) w);
        };
        atoms = ap (take (a.len + b.len)) (sym (append_assoc (atoms_in a) (atoms_in b) t)) ∙ take_at (atoms_in a ++ atoms_in b) t (a.len + b.len) e;
      }

  module _ (most : ℕ) where
    pub joined-no : most < a.len + b.len → none ≡ fitting most (atoms_in a ++ atoms_in b)
    joined-no l = sym (fitting-no most _ (rw joined_length l))

    pub joined-yes : a.len + b.len ≤ most → fitting most (atoms_in a ++ atoms_in b) ≡ some (atoms_in a ++ atoms_in b)
    joined-yes l = fitting-yes most _ (rw joined_length l)

-- The walk along a label.

-- the elements' values behind the atoms so far
unfoldable pub value_behind : ℕ → Assignment → List ℕ → List Element → Option (List ℕ)
value_behind most α m l = each (element_value α) l >>= λ parts. fitting most (m ++ concat parts)

-- the elements passed have the atoms so far, and what is left is spelt by the rest
pub record Valuing (most : ℕ) (α : Assignment) (l : List Element) (rest m : List ℕ) : Type 0 where
  pub later : List Element
  pub spelt : Spells rest later
  pub equal : label_value most α l ≡ value_behind most α m later

pub valuing_start : (most : ℕ) (α : Assignment) (l : List Element) (p m : List ℕ) → label p ≡ some l → m ≡ [] → Valuing most α l p m
unfolding label_value value_behind fitting
valuing_start most α l p m e q = rw q (record { later = l; spelt = spells_label p l e; equal = refl })

behind-long : (most : ℕ) (α : Assignment) (m : List ℕ) (l : List Element) → most < length m → value_behind most α m l ≡ none
unfolding value_behind ◌>>=◌
behind-long most α m l h = at (each (element_value α) l)
  where
    at : (o : Option (List (List ℕ))) → (o >>= λ parts. fitting most (m ++ concat parts)) ≡ none
    at none = refl
    at (some ms) = fitting-no most _ (rw (length-append m (concat ms)) (omega arith))

module _ (most : ℕ) (α : Assignment) (m : List ℕ) (e : Element) (l : List Element) where
  behind-none : element_value α e ≡ none → value_behind most α m (e ∷ l) ≡ none
  unfolding value_behind each ◌>>=◌
  behind-none q = rw q

  behind-some : (x : List ℕ) → element_value α e ≡ some x → value_behind most α m (e ∷ l) ≡ value_behind most α (m ++ x) l
  unfolding value_behind each ◌>>=◌ concat
  behind-some x q = rw q (at (each (element_value α) l))
    where
      at : (o : Option (List (List ℕ))) → ((o >>= λ n. some (x ∷ n)) >>= λ parts. fitting most (m ++ concat parts)) ≡ (o >>= λ parts. fitting most ((m ++ x) ++ concat parts))
      at none = refl
      at (some ms) = ap (fitting most) (sym (append_assoc m x (concat ms)))

module _ {most : ℕ} {α : Assignment} {l : List Element} {rest m : List ℕ} (w : Valuing most α l rest m) where
  pub valuing_end : w.later ≡ [] → length m ≤ most → some m ≡ label_value most α l
  unfolding value_behind each ◌>>=◌ concat
  valuing_end e h = sym (w.equal ∙ ap (value_behind most α m) e ∙ ap (fitting most) (append-nil m) ∙ fitting-yes most m h)

  module _ {rest' : List ℕ} {e : Element} (s : Next rest' w.later e) where
    onward : label_value most α l ≡ value_behind most α m (e ∷ s.later)
    onward = w.equal ∙ ap (value_behind most α m) s.whole

    pub valuing_none : none ≡ element_value α e → none ≡ label_value most α l
    valuing_none q = sym (onward ∙ behind-none most α m e s.later (sym q))

    module _ (x : List ℕ) (q : some x ≡ element_value α e) where
      longer : label_value most α l ≡ value_behind most α (m ++ x) s.later
      longer = onward ∙ behind-some most α m e s.later x (sym q)

      pub valuing_long : none ≡ fitting most (m ++ x) → none ≡ label_value most α l
      valuing_long k = sym (longer ∙ behind-long most α _ s.later (fitting-none most _ (sym k)))

      pub valuing_next : (y : List ℕ) → some y ≡ fitting most (m ++ x) → Valuing most α l rest' y
      valuing_next y k = rw (fitting-some most _ _ (sym k)) (record { later = s.later; spelt = s.spelt; equal = longer })
