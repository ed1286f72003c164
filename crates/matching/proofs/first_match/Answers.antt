-- `matching::first_match` meets its contract.
use Rattle.matching.proofs.Storing.{on-left}
use Rattle.matching.proofs.first_match.Goals as goal

pub search-requires : goal.search-requires
search-requires c =
    let p = c.requires in
    let t = p.rule in record {
      legal = c.args.host.now.legal;
      known = record { rule = t.tree; planned = c.make.ensures t.tree t.is };
    }

pub returns : goal.returns
returns c =
    let p = c.requires in
    let made = c.make in
    let sought = c.search.ensures in (
      (made.ensures p.rule.tree p.rule.is).laid.items.size,
      record {
        room = sought.room;
        arrays = sought.arrays;
        right = λ r e. sought.right (record { rule = r; planned = made.ensures r e });
        values = λ r e slots q v k.
            let t = on-left r (made.ensures r e).laid.holds v k in
            sought.values (record { rule = r; planned = made.ensures r e }) slots q v t.0 t.1;
      },
    )
