-- `rest_fits` meets its contract: the label agrees, by its sort or as compared, and the tests are left.
use Rattle.std.proofs.Common.{◌≡◌, refl, ◌∙◌, true, [], ◌∷◌, ◌++◌, ◌+◌, length, get_or, take}
use Rattle.meaning.specs.Layout.{Host, host_of}
use Rattle.meaning.specs.Matching.{left_nodes}
use Rattle.meaning.specs.Assigned.{assigned}
use Rattle.meaning.specs.FirstMatch.{label_agrees}
use Rattle.plan.specs.Plan.{label_of, sort_at}
use Rattle.agreeing.specs.Placed.{Known, label_at, Tried}
use Rattle.agreeing.specs.Trials.{before-length, item-there, tried_item}
use Rattle.testing.proofs.Rest.{alone-agrees, compared_is, compared_no, left-tests}
use Rattle.testing.proofs.rest_fits.Goals as goal
use Rattle.testing.proofs.rest_fits.Goals.{Start, else-sort-ne-LENGTH-via-then-sort-ne-LENGTH+then-sort-ne-CONSTANT+else-not-compared, else-sort-ne-LENGTH-via-then-sort-ne-LENGTH+else-sort-ne-CONSTANT, else-sort-ne-LENGTH-via-else-sort-ne-LENGTH}

abbrev host : (s : Start) → Host
host s = host_of s.args.host.now.layout s.args.host.now.nodes.now s.args.host.now.edges.now

abbrev Rule : (s : Start) → Type 0
Rule s = Known s.args.rule.now.bytes.now s.args.rule.now.plan.now

placed : (s : Start) → length (take s.args.trial.now.item s.args.trial.now.at.now) ≡ s.args.trial.now.item
placed s = let w = s.requires.known in before-length w s.args.trial.now.at.now s.args.trial.now.item s.requires.at_len.0 (item-there w s.requires.candidate)

abbrev tried : (s : Start) → Rule s → Tried (host s) s.args.rule.now.bytes.now s.args.rule.now.plan.now s.args.trial.now.at.now s.args.trial.now.item s.args.trial.now.slot
tried s w = tried_item _ _ _ _ w s.requires.at_len.0 _ _ s.requires.at_len.1 s.requires.candidate

abbrev Agrees : (s : Start) → Rule s → Type 0
Agrees s w =
    label_agrees w.rule (assigned (host s) w.rule (take s.args.trial.now.item s.args.trial.now.at.now ++ s.args.trial.now.slot ∷ [])) (label_of w.rule s.args.trial.now.item) (label_at (host s) (left_nodes w.rule) s.args.trial.now.item s.args.trial.now.slot)
    ≡ true

by_length : (s : Start) (w : Rule s) → get_or s.args.rule.now.plan.now (sort_at + s.args.trial.now.item) 0 ≡ 1 → Agrees s w
by_length s w e =
    let k = item-there w s.requires.candidate in
    alone-agrees (host s) w.rule (take s.args.trial.now.item s.args.trial.now.at.now) s.args.trial.now.item s.args.trial.now.slot (placed s) k w.planned.laid.holds (((s.requires.likely w).label refl).length refl) ((w.planned.labelled _ k).alone e)

by-atom : (s : Start) (w : Rule s) → get_or s.args.rule.now.plan.now (sort_at + s.args.trial.now.item) 0 ≡ 2 → Agrees s w
by-atom s w e = ((s.requires.likely w).label refl).constant refl e _

pub compared-requires : goal.compared-requires
compared-requires c =
    (tried (goal.at.compared-requires c).Start c.requires.known)

pub returns-then-not-compared : goal.returns-then-not-compared
returns-then-not-compared c =
    λ w. compared_no (c.requires.likely w) _ (c.compared.ensures (tried (goal.at.returns-then-not-compared c).Start w)) c.if-not-compared.true

pub tests_so_far-requires : goal.tests_so_far-requires
tests_so_far-requires c =
    (tried (goal.at.tests_so_far-requires c).Start c.requires.known)

pub returns : goal.returns
returns c =
    λ w.
    let start = (goal.at.returns c).Start in
    let l = c.requires.likely w in
    let agrees : Agrees start w =
    elim c.else-sort-ne-LENGTH.branch [
      | else-sort-ne-LENGTH-via-then-sort-ne-LENGTH+then-sort-ne-CONSTANT+else-not-compared k ↦ compared_is l _ (k.compared.ensures (tried start w)) ∙ k.if-not-compared.false
      | else-sort-ne-LENGTH-via-then-sort-ne-LENGTH+else-sort-ne-CONSTANT k ↦ by-atom start w k.if-sort-ne-CONSTANT.false
      | else-sort-ne-LENGTH-via-else-sort-ne-LENGTH k ↦ by_length start w k.if-sort-ne-LENGTH.false
    ]
    in
    left-tests l agrees _ (c.tests_so_far.ensures (tried start w))
