-- A walk that puts the parts of a text one by one: what is put and what is to come are the whole. Rests on specs/Putting and Rows.
use mathlib.Core.Path.{◌≡◌, refl, sym, ◌∙◌, ap}
use mathlib.Core.List.{List, [], ◌++◌, append_assoc, append-nil}
use Prim.Native.Nat.{ℕ, ◌+◌, ◌≤◌}
use Rattle.exporting.specs.Putting.{Puts}
use Rattle.exporting.proofs.Rows.{nothing, within, saying, then}

pub record Coming (whole : List ℕ) (coming : List ℕ) (before : List ℕ) (start : ℕ) (out : List ℕ) (at : ℕ) (most : ℕ) : Type 0 where
  pub done : List ℕ
  pub parts : done ++ coming ≡ whole
  pub puts : Puts most done before start out at

pub coming-start : (whole before : List ℕ) (start most : ℕ) → Coming whole whole before start before start most
coming-start whole before start most = record { done = []; parts = refl; puts = nothing most before start }

module _ {whole coming before out : List ℕ} {start at most : ℕ} (w : Coming whole coming before start out at most) where
  -- a part is put
  pub coming-more : {n : ℕ} {later : List ℕ} {end : ℕ} (t u : List ℕ) (more : ℕ) → coming ≡ t ++ u → Puts n t out at later end → most + n ≤ more
      → Coming whole u before start later end more
  coming-more {n} t u more e p i =
      record {
        done = w.done ++ t;
        parts = append_assoc w.done t u ∙ ap (λ (l : List ℕ). w.done ++ l) (sym e) ∙ w.parts;
        puts = within (most + n) more i (then w.puts p);
      }

  -- nothing is to come
  pub coming-end : (all : ℕ) → coming ≡ [] → most ≤ all → Puts all whole before start out at
  coming-end all e i =
      saying w.done whole (sym (append-nil w.done) ∙ ap (λ (l : List ℕ). w.done ++ l) (sym e) ∙ w.parts) (within most all i w.puts)
