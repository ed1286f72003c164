-- The graph that lent tables hold, and how many slots a table has. Rests on the meaning's Layout and on Graph.
use Rattle.std.specs.Prelude.{ℕ}
use Rattle.meaning.specs.Layout.{Host, host_of}
use Rattle.meaning.specs.declared.Table.{Table}
use Rattle.graph.specs.Graph.{slots_in}
use Rattle.graph.specs.declared.Graph.{Graph}

abbrev pub host_in : Graph → Host
host_in g = host_of g.layout g.nodes.now g.edges.now

abbrev pub slots_of : Graph → Table → ℕ
slots_of g which = slots_in g.layout g.nodes.now g.edges.now which
