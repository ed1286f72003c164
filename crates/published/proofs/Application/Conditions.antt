-- Labels and tests in a host's graph: a left label's instance is what matching says, and a test is true exactly where matching
-- says so. Rests on RuleApplication and meaning's Matching.
use Rattle.std.specs.Prelude.{ℕ, zero, suc, ◌<◌, ◌↔◌, Bool, not, List, [], ◌∷◌, eqb, length, get_or}
use Rattle.std.proofs.Math.Path.{◌≡◌, refl, sym, ap}
use Rattle.std.proofs.Common.{◌∙◌}
use Rattle.std.proofs.Math.Bool.{true, false}
use native.Mathlib.Omega.{arith}
use Rattle.std.proofs.Math.Decide.{ℕ_discrete}
use borrow.Author.Tests.{eq-eqb, eqb-true}
use Rattle.meaning.specs.Basics.{choose, both, count, concat}
use Rattle.meaning.specs.Numbers.{whole}
use Rattle.meaning.specs.Layout.{Host, live_at}
use Rattle.meaning.specs.References.{operand_names, condition_operands, condition_nodes, is_plain}
use Rattle.meaning.specs.Matching.{node_slot, Assignment, atoms_of, instance, atom_of, edge_runs, edge_leaves, edge_arrives, out_degree, in_degree, condition_holds, test_holds}
use Rattle.meaning.specs.Laws.Tests.{both_true, both_of, exists-of, exists-true}
use Rattle.meaning.specs.Laws.Every.{Every}
use Rattle.laws.specs.Counting.{count-from}
use Rattle.laws.specs.Layout.{Words}
use Rattle.laws.specs.Values.{LegalOperand}
use Rattle.meaning.specs.Laws.Slots.{live_at_lt}
use Rattle.meaning.specs.declared.Operand.{Operand}
use Rattle.meaning.specs.declared.Operand.TheVariants.{Constant as constant_operand, Variable as variable_operand}
use Rattle.meaning.specs.declared.Element.{Element}
use Rattle.meaning.specs.declared.Element.TheVariants.{Constant, Variable, Sum, Difference}
use Rattle.meaning.specs.declared.Condition.{Condition}
use Rattle.meaning.specs.declared.Condition.TheVariants.{Edge as edge_between, InDegree, OutDegree, Equal, Less}
use Rattle.meaning.specs.declared.Test.{Test}
use Rattle.published.specs.Graphs.{Edge, graph_of}
use Rattle.published.specs.Integers.{named}
use Rattle.published.proofs.Integers.{named-apart, less-named}
use Rattle.published.specs.RuleApplication.{integer, Instance, Exactly, Holds, TestTrue}
use Rattle.published.specs.Application.Conditions.{Passing, Tested}

-- an operand's integer is that of its atom
pub integer-is : (α : Assignment) (o : Operand) → integer α o ≡ named (atom_of α o)
unfolding atom_of
integer-is α (constant_operand c) = refl
integer-is α (variable_operand v) = refl

-- the atom is a word where a constant is one and a variable has words
pub atom-word : (α : Assignment) (o : Operand) → LegalOperand o → Every (λ v. Words (α v)) (operand_names o) → atom_of α o < whole
unfolding atom_of operand_names
atom-word α (constant_operand c) h w = h
atom-word α (variable_operand v) h w = w.0 0

-- Left labels.

-- the instance of a label with no sum or difference
pub plain-instance : (α : Assignment) (l : List Element) → Every (λ x. is_plain x ≡ true) l → Instance α l (instance α l)
unfolding is_plain atoms_of concat
plain-instance α [] p = refl
plain-instance α (Constant c ∷ l) p = (c ∷ [], instance α l, refl, plain-instance α l p.1, refl)
plain-instance α (Variable v ∷ l) p = (α v, instance α l, refl, plain-instance α l p.1, refl)
plain-instance α (Sum a b ∷ l) p = let f = p.0 in let z : ◌≡◌ {A = ℕ} 0 1 = cc in absurd (omega arith)
plain-instance α (Difference a b ∷ l) p = let f = p.0 in let z : ◌≡◌ {A = ℕ} 0 1 = cc in absurd (omega arith)

-- and there is no other
pub instance-plain : (α : Assignment) (l : List Element) (m : List ℕ) → Every (λ x. is_plain x ≡ true) l → Instance α l m
    → m ≡ instance α l
unfolding is_plain atoms_of concat
instance-plain α [] m p i = i
instance-plain α (Constant c ∷ l) m p i = rw (i.4, i.2, instance-plain α l i.1 p.1 i.3)
instance-plain α (Variable v ∷ l) m p i = rw (i.4, i.2, instance-plain α l i.1 p.1 i.3)
instance-plain α (Sum a b ∷ l) m p i = let f = p.0 in let z : ◌≡◌ {A = ℕ} 0 1 = cc in absurd (omega arith)
instance-plain α (Difference a b ∷ l) m p i = let f = p.0 in let z : ◌≡◌ {A = ℕ} 0 1 = cc in absurd (omega arith)

-- Counting.

-- the numbers below n that pass f
pub passing : (ℕ → Bool) → ℕ → List ℕ
passing f zero = []
passing f (suc n) = choose (f n) (n ∷ passing f n) (passing f n)

pub passing-all : (f : ℕ → Bool) (n : ℕ) → Passing f n (count f n) (passing f n)
unfolding passing count choose
passing-all f zero =
    record {
      size = refl;
      below = λ i h. absurd (omega arith);
      passes = λ i h. absurd (omega arith);
      apart = λ i j h. absurd (omega arith);
      all = λ x h. absurd (omega arith);
    }
passing-all f (suc n) = at (f n) refl (passing-all f n)
  where
    l : List ℕ
    l = passing f n

    m : ℕ
    m = count f n

    head_below : Passing f n m l → (i : ℕ) → i < suc m → get_or (n ∷ l) i 0 < suc n
    head_below p zero h = omega arith
    head_below p (suc i) h = let k = p.below i (omega arith) in omega arith

    head_passes : Passing f n m l → f n ≡ true → (i : ℕ) → i < suc m → f (get_or (n ∷ l) i 0) ≡ true
    head_passes p q zero h = q
    head_passes p q (suc i) h = p.passes i (omega arith)

    head_apart : Passing f n m l → (i j : ℕ) → i < suc m → j < suc m → get_or (n ∷ l) i 0 ≡ get_or (n ∷ l) j 0 → i ≡ j
    head_apart p zero zero h k e = refl
    head_apart p zero (suc j) h k e = let b = p.below j (omega arith) in absurd (omega arith)
    head_apart p (suc i) zero h k e = let b = p.below i (omega arith) in absurd (omega arith)
    head_apart p (suc i) (suc j) h k e = ap suc (p.apart i j (omega arith) (omega arith) e)

    head_all : Passing f n m l → (x : ℕ) → Dec (x ≡ n) → x < suc n → f x ≡ true → (i : ℕ) × (i < suc m) × (get_or (n ∷ l) i 0 ≡ x)
    head_all p x (yes d) h e = (0, omega arith, sym d)
    head_all p x (no d) h e = let t = p.all x (omega arith) e in (suc t.0, omega (arith, t.1), t.2)

    tail_all : Passing f n m l → f n ≡ false → (x : ℕ) → Dec (x ≡ n) → x < suc n → f x ≡ true → (i : ℕ) × (i < m) × (get_or l i 0 ≡ x)
    tail_all p q x (yes d) h e = let z : ◌≡◌ {A = ℕ} 0 1 = cc in absurd (omega arith)
    tail_all p q x (no d) h e = p.all x (omega arith) e

    at : (b : Bool) → f n ≡ b → Passing f n m l → Passing f (suc n) (choose b (suc m) m) (choose b (n ∷ l) l)
    at true q p =
        record {
          size = ap suc p.size;
          below = head_below p;
          passes = head_passes p q;
          apart = head_apart p;
          all = λ x. head_all p x (ℕ_discrete x n);
        }
    at false q p =
        record {
          size = p.size;
          below = λ i h. let k = p.below i h in omega arith;
          passes = p.passes;
          apart = p.apart;
          all = λ x. tail_all p q x (ℕ_discrete x n);
        }

count-true : (m : ℕ) → count (λ x. true) m ≡ m
unfolding count choose
count-true zero = refl
count-true (suc m) = ap suc (count-true m)

module _ (f : ℕ → Bool) (n : ℕ) (P : ℕ → Type 0) (t : Tested f n P) where
  -- so there are as many of them as are counted
  count-exactly : Exactly (count f n) P
  count-exactly =
      let p = passing-all f n in
      record {
        list = passing f n;
        size = p.size;
        apart = p.apart;
        each = λ i h. t.holds _ (p.passes i h);
        all = λ x h. p.all x (t.below x h) (t.passes x h);
      }

  -- and no other number of them
  exactly-count : (m : ℕ) → Exactly m P → count f n ≡ m
  exactly-count m e =
      let a = count-from f (λ k. true) (λ k. get_or e.list k 0) n m (λ x h q.
      let u = e.all x (t.holds x q) in (u.0, u.1, refl, u.2)) in
      let b = count-from (λ k. true) f (λ x. place x (f x) refl) m n (λ k h q.
      let p = e.each k h in
      (get_or e.list k 0, t.below _ p, t.passes _ p, e.apart _ k (place_in _ _ refl (t.passes _ p)) h (place_at _ _ refl (t.passes _ p)))) in
      omega (arith, count-true m)
    where
      place : (x : ℕ) (b : Bool) → f x ≡ b → ℕ
      place x true q = (e.all x (t.holds x q)).0
      place x false q = 0

      place_in : (x : ℕ) (b : Bool) (q : f x ≡ b) → f x ≡ true → place x b q < m
      place_in x true q h = (e.all x (t.holds x q)).1
      place_in x false q h = let z : ◌≡◌ {A = ℕ} 0 1 = cc in absurd (omega arith)

      place_at : (x : ℕ) (b : Bool) (q : f x ≡ b) → f x ≡ true → get_or e.list (place x b q) 0 ≡ x
      place_at x true q h = (e.all x (t.holds x q)).2
      place_at x false q h = let z : ◌≡◌ {A = ℕ} 0 1 = cc in absurd (omega arith)

  counted : (m : ℕ) → (eqb (count f n) m ≡ true) ↔ Exactly m P
  counted m = (
    λ e. rw (eqb-true (count f n) m e) at count-exactly,
    λ e. eq-eqb (count f n) m (exactly-count m e),
  )

-- Tests.

module _ (h : Host) where
  -- the edges with an end, the source or the target, in slot s
  ends-tested : (end : ℕ → ℕ) (s : ℕ)
      → Tested (λ x. both (live_at h.edges x) (eqb (end x) s)) (length h.edges) (λ e. Edge (graph_of h) e × (end e ≡ s))
  ends-tested end s =
      record {
        below = λ x p. live_at_lt h.edges x p.0;
        passes = λ x p. both_of _ _ p.0 (eq-eqb _ _ p.1);
        holds = λ x e. let t = both_true _ _ e in (t.0, eqb-true _ _ t.1);
      }

  module _ (p : List ℕ) (node : ℕ → ℕ) (α : Assignment) where
    -- a condition holds in the host's graph exactly where matching says so
    pub condition-holds : (c : Condition) → Every (λ a. node a ≡ node_slot p a) (condition_nodes c)
        → Every (λ o. atom_of α o < whole) (condition_operands c)
        → (condition_holds h p α c ≡ true) ↔ Holds (graph_of h) node α c
    unfolding condition_nodes condition_operands condition_holds edge_runs edge_leaves edge_arrives out_degree in_degree
    condition-holds (edge_between a b) n o = (
      λ e.
          let t = exists-true _ _ e in
          let u = both_true _ _ t.2 in
          let v = both_true _ _ u.1 in
          (t.0, u.0, eqb-true _ _ v.0 ∙ sym n.0, eqb-true _ _ v.1 ∙ sym n.1.0),
      λ t.
          exists-of _ _ t.0 (live_at_lt h.edges t.0 t.1)
          (both_of _ _ t.1 (both_of _ _ (eq-eqb _ _ (t.2 ∙ n.0)) (eq-eqb _ _ (t.3 ∙ n.1.0)))),
    )
    condition-holds (InDegree a m) n o = rw n.0 (counted _ _ _ (ends-tested (graph_of h).target (node_slot p a)) m)
    condition-holds (OutDegree a m) n o = rw n.0 (counted _ _ _ (ends-tested (graph_of h).source (node_slot p a)) m)
    condition-holds (Equal a b) n o =
        rw (integer-is α a, integer-is α b) (λ e. ap named (eqb-true _ _ e), λ e. eq-eqb _ _ (named-apart _ _ e))
    condition-holds (Less a b) n o =
        let q = less-named (atom_of α a) (atom_of α b) o.0 o.1.0 in
        rw (integer-is α a, integer-is α b) (λ e. sym q ∙ e, λ e. q ∙ e)

    -- so a test is true exactly where matching says so
    pub test-holds : (t : Test) → Every (λ a. node a ≡ node_slot p a) (condition_nodes t.condition)
        → Every (λ o. atom_of α o < whole) (condition_operands t.condition)
        → (test_holds h p α t ≡ true) ↔ TestTrue (graph_of h) node α t.negated t.condition
    unfolding test_holds choose
    test-holds t n o = at t.negated (condition_holds h p α t.condition) refl (condition-holds t.condition n o)
      where
        at : (s b : Bool) → condition_holds h p α t.condition ≡ b → (b ≡ true) ↔ Holds (graph_of h) node α t.condition
            → (choose s (not b) b ≡ true) ↔ TestTrue (graph_of h) node α s t.condition
        at false b q i = i
        at true true q i = (λ e. let z : ◌≡◌ {A = ℕ} 0 1 = cc in absurd (omega arith), λ f. absurd (f (i.0 refl)))
        at true false q i = (λ e k. let f = i.1 k in let z : ◌≡◌ {A = ℕ} 0 1 = cc in omega arith, λ f. refl)
