-- A walk that writes the parts of a text one by one: what is written and what is to come are the whole. Rests on Text and Rows.
use Rattle.std.specs.Prelude.{◌≡◌, refl, List, [], ◌++◌, ℕ, ◌+◌, ◌≤◌, length}
use Rattle.std.proofs.Common.{sym, ◌∙◌, ap, append_assoc, append-nil}
use Rattle.writing.specs.Text.{Adds}
use Rattle.writing.specs.Laws.Rows.{nothing, within, saying, then}

pub record Coming (whole : List ℕ) (coming : List ℕ) (before : List ℕ) (start : ℕ) (out : List ℕ) (at : ℕ) (most : ℕ) : Type 0 where
  pub same : length out ≡ length before
  pub done : List ℕ
  pub parts : done ++ coming ≡ whole
  pub adds : Adds most done before start out at

pub coming-start : (whole before : List ℕ) (start most : ℕ) → Coming whole whole before start before start most
coming-start whole before start most = record { same = refl; done = []; parts = refl; adds = nothing most before start }

module _ {whole coming before out : List ℕ} {start at most : ℕ} (w : Coming whole coming before start out at most) where
  -- a part is written
  pub coming-more : {n : ℕ} {later : List ℕ} {end : ℕ} (t u : List ℕ) (more : ℕ) → coming ≡ t ++ u → length later ≡ length out
      → Adds n t out at later end → most + n ≤ more → Coming whole u before start later end more
  coming-more {n} t u more e h a i =
      record {
        same = h ∙ w.same;
        done = w.done ++ t;
        parts = append_assoc w.done t u ∙ ap (λ (l : List ℕ). w.done ++ l) (sym e) ∙ w.parts;
        adds = within (most + n) more i (then w.adds a);
      }

  -- the last part is written
  pub coming-last : {n : ℕ} {t later : List ℕ} {end : ℕ} (all : ℕ) → coming ≡ t → Adds n t out at later end → most + n ≤ all
      → Adds all whole before start later end
  coming-last {n} {t} all e a i =
      saying (w.done ++ t) whole (ap (λ (l : List ℕ). w.done ++ l) (sym e) ∙ w.parts) (within (most + n) all i (then w.adds a))

  -- nothing is to come
  pub coming-end : (all : ℕ) → coming ≡ [] → most ≤ all → Adds all whole before start out at
  coming-end all e i =
      saying w.done whole (sym (append-nil w.done) ∙ ap (λ (l : List ℕ). w.done ++ l) (sym e) ∙ w.parts) (within most all i w.adds)
