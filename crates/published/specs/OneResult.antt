-- The construction has one result: two graphs that are constructed with the same premorphism and assignment are isomorphic, as
-- document 000 says below Definition 2.3. Rests on RuleApplication and Isomorphism.
use Rattle.std.specs.Prelude.{ℕ, ◌≡◌, true}
use Rattle.meaning.specs.Image.{Rule}
use Rattle.meaning.specs.References.{rule_holds}
use Rattle.published.specs.Graphs.{Graph, HostGraph}
use Rattle.published.specs.RuleApplication.{Premorphism, StaysNode, Matches}

module _ (r : Rule) (holds : rule_holds r ≡ true) (G : Graph) (host : HostGraph G) (m : Matches r G) where
  abbrev pub g : Premorphism r.left G
  g = m.g

  abbrev pub Stays : ℕ → Type 0
  Stays = StaysNode r G g
