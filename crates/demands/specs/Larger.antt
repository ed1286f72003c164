-- A run of ours with more room, at the same layout or at one whose labels hold more atoms: what ends for no want of room ends so there
-- too, with as much fuel as it takes steps, and the added room is free; with less it is out of fuel.
-- Rests on Started, Laws/FurtherCommands and Laws/Shortage.
use Rattle.std.specs.Prelude.{ℕ, ◌/◌, ◌≤◌, ◌≡◌, true, length}
use Rattle.std.proofs.Common.{◌∙◌, ap, arith}
use Rattle.meaning.specs.Layout.{node_length, edge_length, record_length, fits_table, host_of, keeps_layout}
use Rattle.meaning.specs.Image.{raw_program}
use Rattle.meaning.specs.Procedures.{program}
use Rattle.meaning.specs.Calls.{Lent, most_fuel}
use Rattle.demands.specs.Demands.{Lendable}
use Rattle.demands.specs.Ours.{Good}
use Rattle.demands.specs.Laws.Further.{roomier}
use Rattle.demands.specs.Laws.FurtherCommands.{EndsWithRoom}
use Rattle.meaning.specs.declared.Layout.{Layout}
use Rattle.meaning.specs.declared.Stop.TheVariants.{OutOfFuel}
use Rattle.meaning.specs.declared.End.{End}
use Rattle.meaning.specs.declared.End.TheVariants.{Stopped}

-- y holds at M the graph that x holds at L, with further free slots behind, and has room for as many records or more, within the
-- limits; the program is the same, and the fuel any
pub record Larger (L M : Layout) (x y : Lent) : Type 0 where
  pub lendable : Lendable y
  pub nodes_more : ℕ
  pub edges_more : ℕ
  pub host : host_of M y.nodes y.edges ≡ roomier nodes_more edges_more (host_of L x.nodes x.edges)
  pub layout : keeps_layout M y.nodes y.edges ≡ true
  pub records : length x.journal / record_length L ≤ length y.journal / record_length M
  pub image : y.image ≡ x.image
  pub nodes_fit : fits_table (node_length M) M.nodes y.nodes ≡ true
  pub edges_fit : fits_table (edge_length M) M.edges y.edges ≡ true
  pub journal_fits : fits_table (record_length M) M.records y.journal ≡ true
  pub fuel_fits : y.fuel ≤ most_fuel
  pub report_fits : length y.report ≡ 8

-- y starts, where x does
abbrev pub starts-there : (L M : Layout) (x y : Lent) → Larger L M x y → Good L x → Good M y
starts-there L M x y more a =
    record {
      report_size = more.report_fits;
      nodes_fit = more.nodes_fit;
      edges_fit = more.edges_fit;
      journal_fits = more.journal_fits;
      fuel_fits = more.fuel_fits;
      image_fits = omega (arith, ap length more.image, a.image_fits);
      layout = more.layout;
      raw = a.raw;
      read = ap raw_program more.image ∙ a.read;
      references = a.references;
      placement = a.placement;
      depth = a.depth;
      tree = a.tree;
      whole = a.whole;
      form = ap program more.image ∙ a.form;
    }

-- the end is for no want of room or fuel
abbrev pub Settling : Layout → Layout → End → Type 0
Settling L M e = EndsWithRoom L.atoms M.atoms e × (e ≡ Stopped OutOfFuel → ⊥)
