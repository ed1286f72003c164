-- A run of ours with more room, at the same layout or at one whose labels hold more atoms: what ends for no want of room ends so there
-- too, with as much fuel as it takes steps, and the added room is free; with less it is out of fuel.
-- Rests on Started, Laws/FurtherCommands and Laws/Shortage.
use Rattle.std.specs.Prelude.{ℕ, ◌+◌, ◌-◌, ◌/◌, ◌<◌, ◌≤◌, ◌≡◌, length}
use Rattle.std.proofs.Common.{sym, ◌∙◌, ap, arith}
use Rattle.meaning.specs.Layout.{Host, record_length}
use Rattle.meaning.specs.Procedures.{Program}
use Rattle.meaning.specs.Commands.{State, Out, ends, exec, beginning}
use Rattle.meaning.specs.Calls.{Lent}
use Rattle.demands.specs.Demands.{Outcome, Lendable, start, outcome_at}
use Rattle.demands.specs.Ours.{ours, end, Good}
use Rattle.demands.proofs.Ours.{ours-outcome, good-starts}
use Rattle.demands.proofs.Started.{rules-sound}
use Rattle.laws.specs.Undoing.{Numbered}
use Rattle.laws.specs.Fuel.{exec-counted}
use Rattle.demands.specs.Laws.Shortage.{fuelled, ends_with, exec_fuel, exec_shortage}
use Rattle.demands.specs.Laws.FurtherCommands.{roomier_state, roomier_out, exec-roomier}
use Rattle.meaning.specs.declared.Layout.{Layout}
use Rattle.meaning.specs.declared.End.{End}
use Rattle.demands.specs.Larger.{Larger, starts-there, Settling}

module _ (L M : Layout) (k : Numbered L) (labels : L.atoms ≤ M.atoms) (x : Lent) (b : Lendable x) (a : Good L x)
    (ended : Settling L M (end L x a.tree).end) (y : Lent) (more : Larger L M x y)
  where
    abbrev p : Program
    p = a.tree

    abbrev o : Out
    o = end L x p

    abbrev good-y : Good M y
    good-y = starts-there L M x y more a

    abbrev room : ℕ
    room = length x.journal / record_length L

    abbrev room' : ℕ
    room' = length y.journal / record_length M

    -- y starts where x does, with further free slots
    abbrev begin : State
    begin = roomier_state more.nodes_more more.edges_more (start L x)

    -- the same command there, with the fuel of x
    roomy : exec M.atoms room' p.rules p.main begin ≡ roomier_out more.nodes_more more.edges_more o
    roomy =
        exec-roomier more.nodes_more more.edges_more L.atoms M.atoms labels room room' more.records p.rules
        (rules-sound L k x b a) p.main (start L x) ended.0

    spent : o.state.fuel + o.state.steps ≡ x.fuel + 0
    spent = (exec-counted L.atoms room p.rules p.main (start L x)).total

    roomy-fuel : (exec M.atoms room' p.rules p.main begin).state.fuel ≡ o.state.fuel
    roomy-fuel = ap (λ (q : Out). q.state.fuel) roomy

    left-y : (ours M).run y ≡ outcome_at M y (end M y p).end (end M y p).state
    left-y = ours-outcome M y p (good-starts M y good-y) good-y.form

    end-y : end M y p ≡ exec M.atoms room' p.rules p.main (fuelled y.fuel begin)
    end-y = ap (λ (h : Host). exec M.atoms room' p.rules p.main (beginning h y.fuel)) more.host

    -- with the fuel of y, where it is enough, the end is the same
    pub enough-y : o.state.steps ≤ y.fuel
        → (f : ℕ) × (end M y p ≡ ends o.end (fuelled f (roomier_state more.nodes_more more.edges_more o.state)))
    enough-y l =
        let e =
        exec_fuel M.atoms room' p.rules p.main begin y.fuel (λ q. ended.1 (sym (ap (λ (q : Out). q.end) roomy) ∙ q))
        (omega (arith, spent, roomy-fuel)) in
        (y.fuel + o.state.fuel - x.fuel, end-y ∙ e ∙ ap (ends_with y.fuel begin) roomy)

    pub larger_left : (l : o.state.steps ≤ y.fuel)
        → (ours M).run y
        ≡ outcome_at M y o.end (fuelled (enough-y l).0 (roomier_state more.nodes_more more.edges_more o.state))
    larger_left l = left-y ∙ ap (λ (z : Out). outcome_at M y z.end z.state) (enough-y l).1

    -- where it is not, fuel runs out
    pub larger_short : y.fuel < o.state.steps → ((ours M).run y).answer ≡ 2
    larger_short l =
        let e = exec_shortage M.atoms room' p.rules p.main begin y.fuel (omega (arith, spent, roomy-fuel)) in
        ap (λ (z : Outcome). z.answer) left-y
        ∙ ap (λ (e : End). (outcome_at M y e (end M y p).state).answer) (ap (λ (q : Out). q.end) end-y ∙ e)
