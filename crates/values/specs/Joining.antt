-- Laws of two labels that are joined in one array, atom by atom behind those of the first. Rests on Values, on Laws and on labels' Laws.
use Rattle.std.proofs.Math.Path.{◌≡◌, sym, ap}
use Rattle.std.proofs.Common.{◌∙◌, length-append, get_or-take, get_or-append-add}
use Rattle.std.specs.Prelude.{List, ◌++◌, ℕ, ◌+◌, ◌<◌, ◌≤◌, length, get_or, set, take, Some}
use native.Mathlib.Omega.{arith}
use Rattle.std.proofs.Math.Seq.{take-append_seam}
use Rattle.meaning.specs.Layout.{most_atoms}
use Rattle.labels.specs.Labels.{atoms_in, Held, Holds}
use Rattle.labels.specs.Laws.{Filled, filled_more, filled-all, held-length}
use Rattle.labels.specs.declared.Label.{Label}
use Rattle.values.specs.Values.{value_in, fitting}
use Rattle.values.specs.Laws.{value-one, fitting-yes}

module _ (a b : Label) (h : Held a) (k : Held b) where
  joined_length : length (atoms_in a ++ atoms_in b) ≡ a.len + b.len
  joined_length = length-append (atoms_in a) (atoms_in b) ∙ rw (held-length a h, held-length b k)

  pub joined-start : Filled (atoms_in a ++ atoms_in b) (a.len + 0) a.atoms
  joined-start =
      let z : a.len + 0 ≡ a.len = omega arith in
      let e = held-length a h in
      record {
        room = h.room;
        small = h.small;
        front = rw z (sym (ap (λ (n : ℕ). take n (atoms_in a ++ atoms_in b)) (sym e) ∙ take-append_seam (atoms_in a) (atoms_in b)));
      }

  module _ (most : ℕ) (bound : most ≤ most_atoms) (fits : a.len + b.len ≤ most) (j : ℕ) (l : List ℕ) (f : Filled (atoms_in a ++ atoms_in b) (a.len + j) l) where
    pub joined-more : j < b.len → Filled (atoms_in a ++ atoms_in b) (a.len + (j + 1)) (set l (a.len + j) (get_or b.atoms j 0))
    joined-more i =
        let z : a.len + (j + 1) ≡ a.len + j + 1 = omega arith in
        let e = joined_length in
        rw z
        (filled_more _ l (a.len + j) _ f (omega arith) (omega arith) (k.small j)
        (sym (ap (λ (n : ℕ). get_or (atoms_in a ++ atoms_in b) (n + j) 0) (sym (held-length a h)) ∙ get_or-append-add (atoms_in a) (atoms_in b) j 0 ∙ get_or-take b.len b.atoms j 0 i)))

    pub joined-full : j ≡ b.len → Holds (atoms_in a ++ atoms_in b) (record { len = a.len + b.len; atoms = l })
    joined-full e = filled-all _ l _ (rw e at f) (omega arith) (sym joined_length)

    pub joined-value : j ≡ b.len → value_in (Some (record { len = a.len + b.len; atoms = l })) ≡ fitting most (atoms_in a ++ atoms_in b)
    joined-value e = value-one _ _ (joined-full e) ∙ sym (fitting-yes most _ (rw joined_length fits))
