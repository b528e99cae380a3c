use Rattle.std.proofs.Common.{map, refl, ap, sym, subst, ◌∙◌, arith}
use Rattle.iscsi_lists.specs.Lists.{with_last, without}
use Rattle.iscsi_waiting.specs.Counting.{HasOne, without_one}
use Rattle.iscsi_outbox_state.specs.declared.waiting.Waiting.{Waiting}
use Rattle.iscsi_waiting.specs.Kept.{BLANK, kept_at}
use Rattle.iscsi_waiting.specs.declared.slots.Kept.{Kept}
use Rattle.iscsi_waiting.proofs.EnterLemmas.{conns_long, counted_here, kept_alike}
use Rattle.iscsi_waiting.proofs.MarkLemmas.{told_in}
use Rattle.iscsi_waiting.proofs.OutLemmas.{all_has, conn_has, left_kept}
use Rattle.iscsi_waiting.proofs.slots.Slots.take_out.Goals as goal

pub index_mut-requires : goal.index_mut-requires
index_mut-requires c =
    let s = c.args.self.now in
    let at = told_in c.args.slot s.waiting.lists c.requires.waits c.list_of-conn.result c.list_of-conn.ensures in
    let l = at.0 in let long = conns_long s.waiting s.owned s.fence s.counts.items s.all s.time c.requires.kept in let ok = s.counts.ok.0 in omega (arith, l, long, ok)

pub count_out-requires-clause-one : goal.count_out-requires-clause-one
count_out-requires-clause-one c =
    let s = c.args.self.now in let conn = c.list_of-conn.result in
    let at = told_in c.args.slot s.waiting.lists c.requires.waits conn c.list_of-conn.ensures in
    subst (λ (k : Kept). HasOne k.item c.index_mut.result.now) (sym (c.at-kept.ensures BLANK))
    (conn_has s.waiting s.owned s.fence s.counts.items s.all s.time c.requires.kept c.known.ensures.apart conn c.args.slot at.0 at.1 c.index_mut.result.now
    (counted_here s.waiting s.owned s.fence s.counts.items s.all s.time c.requires.kept conn at.0 c.index_mut.result.now c.index_mut.ensures.value))

pub count_out-requires-clause-all : goal.count_out-requires-clause-all
count_out-requires-clause-all c =
    let s = c.args.self.now in let conn = c.list_of-conn.result in
    let at = told_in c.args.slot s.waiting.lists c.requires.waits conn c.list_of-conn.ensures in
    subst (λ (k : Kept). HasOne k.item s.all) (sym (c.at-kept.ensures BLANK))
    (all_has s.waiting s.owned s.fence s.counts.items s.all s.time c.requires.kept c.known.ensures.apart conn c.args.slot at.0 at.1)

pub returns-clause-kept : goal.returns-clause-kept
returns-clause-kept c =
    let s = c.args.self.now in let conn = c.list_of-conn.result in
    let at = told_in c.args.slot s.waiting.lists c.requires.waits conn c.list_of-conn.ensures in
    let item = ap (λ (k : Kept). k.item) (c.at-kept.ensures BLANK) in
    kept_alike c.remove.new.self s.owned c.move_owned.new.owned c.move_to_back.new.self _ _ _ 0 c.args.slot c.move_owned.ensures
    (left_kept s.waiting s.owned s.fence s.counts.items s.all s.time c.requires.kept c.known.ensures.apart conn c.args.slot at.0 at.1
    c.remove.new.self c.remove.ensures.state (record s.owned { lists = with_last 0 c.args.slot (map (without c.args.slot) s.owned.lists) }) c.move_to_back.new.self refl c.move_to_back.ensures.state
    c.count_out.new.one c.count_out.new.all
    (c.count_out.ensures.one ∙ ap (λ (w : Waiting). without_one w c.index_mut.result.now) item
    ∙ ap (without_one (kept_at s.waiting c.args.slot).item) (counted_here s.waiting s.owned s.fence s.counts.items s.all s.time c.requires.kept conn at.0 c.index_mut.result.now c.index_mut.ensures.value))
    (c.count_out.ensures.all ∙ ap (λ (w : Waiting). without_one w s.all) item))
