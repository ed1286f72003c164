-- What is refused, check by check, what an export that is not refused may rest on, and what each leaves. Rests on the text's Text and Rows.
use mathlib.Core.Path.{◌≡◌, refl, sym, ◌∙◌}
use mathlib.Core.Bool.{Bool, true, false}
use mathlib.Core.Option.{some, none}
use mathlib.Core.List.{List}
use Prim.Native.Nat.{ℕ, ◌<◌, ◌≤◌}
use native.Mathlib.Omega.{arith}
use borrow.Author.Tests.{le-leb, lt-leb}
use lib.ListN.{length}
use Rattle.meaning.specs.Basics.{choose, first_failing}
use Rattle.meaning.specs.Layout.{Sized, most_atoms, node_length, edge_length, fits_table, keeps_layout}
use Rattle.meaning.specs.Calls.{answer_number}
use Rattle.meaning.specs.Laws.Checks.{first_failing-none}
use Rattle.meaning.specs.declared.Layout.{Layout}
use Rattle.meaning.specs.declared.Refusal.{Refusal}
use Rattle.meaning.specs.declared.Refusal.TheVariants.{NodeTableLength, EdgeTableLength, BadHost, BufferTooShort}
use Rattle.meaning.specs.declared.Answer.TheVariants.{Result, Refused}
use Rattle.graph.specs.Graph.{Legal}
use Rattle.text.specs.Text.{Exports, text_of, placed, export_on, export_refusal, export_text}
use Rattle.exporting.specs.Putting.{Puts}
use Rattle.exporting.proofs.Rows.{front}

module _ (L : Layout) (nodes edges : List ℕ) where
  -- A test t of the code, in whose layouts slots are as long as they say.

  module _ (s : Sized L) (t b : Bool) where
    pub nodes-told : t ≡ fits_table L.node L.nodes nodes → t ≡ b → fits_table (node_length L) L.nodes nodes ≡ b
    nodes-told e f = (λ i. fits_table (sym s.node i) L.nodes nodes) ∙ sym e ∙ f

    pub edges-told : t ≡ fits_table L.edge L.edges edges → t ≡ b → fits_table (edge_length L) L.edges edges ≡ b
    edges-told e f = (λ i. fits_table (sym s.edge i) L.edges edges) ∙ sym e ∙ f

  -- The checks in their order.

  pub other-nodes : fits_table (node_length L) L.nodes nodes ≡ false → some NodeTableLength ≡ export_refusal L nodes edges
  unfolding export_refusal first_failing choose
  other-nodes e = rw e

  module _ (n : fits_table (node_length L) L.nodes nodes ≡ true) where
    pub other-edges : fits_table (edge_length L) L.edges edges ≡ false → some EdgeTableLength ≡ export_refusal L nodes edges
    unfolding export_refusal first_failing choose
    other-edges e = rw (n, e)

    module _ (e : fits_table (edge_length L) L.edges edges ≡ true) where
      pub damaged : keeps_layout L nodes edges ≡ false → some BadHost ≡ export_refusal L nodes edges
      unfolding export_refusal first_failing choose
      damaged k = rw (n, e, k)

      pub fine : keeps_layout L nodes edges ≡ true → none ≡ export_refusal L nodes edges
      unfolding export_refusal first_failing choose
      fine k = rw (n, e, k)

  -- What is left by the refusal.

  pub left-refused : (buffer : List ℕ) (w : Refusal) → some w ≡ export_refusal L nodes edges
      → Exports (export_text L nodes edges buffer) (answer_number (Refused w)) 0 buffer
  unfolding export_text export_on
  left-refused buffer w e = rw (← e) (record { numbered = refl; measured = refl; returned = refl })

  module _ (e : none ≡ export_refusal L nodes edges) where
    pub taken-legal : Sized L → L.atoms ≤ most_atoms → Legal L nodes edges
    unfolding export_refusal
    taken-legal s a =
        let n = first_failing-none _ _ _ (sym e) in
        let f = first_failing-none _ _ _ n.1 in
        let k = first_failing-none _ _ _ f.1 in
        record { sized = s; few = a; nodes_fit = n.0; edges_fit = f.0; keeps = k.0 }

    pub left-taken : (before after : List ℕ) (number n : ℕ) → Exports (export_on none (text_of L nodes edges) before) number n after
        → Exports (export_text L nodes edges before) number n after
    unfolding export_text
    left-taken before after number n x = rw (← e) x

-- What is left of a text whose length n was counted, by whether it fits.

module _ (t : List ℕ) {m n : ℕ} {b0 b1 : List ℕ} (c : Puts m t b0 0 b1 n) (buffer : List ℕ) where
  counted : n ≡ length t
  counted = omega (arith, c.ends)

  pub left-short : length buffer < n → Exports (export_on none t buffer) (answer_number (Refused BufferTooShort)) n buffer
  unfolding export_on placed
  left-short h =
      rw (lt-leb (length t) (length buffer) (omega (arith, counted))) (record { numbered = refl; measured = counted; returned = refl })

  pub left-whole : {k end : ℕ} {after : List ℕ} → n ≤ length buffer → Puts k t buffer 0 after end
      → Exports (export_on none t buffer) (answer_number Result) n after
  unfolding export_on placed
  left-whole h p =
      let fits : length t ≤ length buffer = omega (arith, counted) in
      rw (le-leb (length t) (length buffer) fits) (record { numbered = refl; measured = counted; returned = front p fits })
