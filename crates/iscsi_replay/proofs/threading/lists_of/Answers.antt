use Rattle.std.proofs.Common.{◌≡◌, ◌∙◌, ℕ, [], ◌∷◌, ◌++◌, length, true, refl, ap, sym, rules, arith}
use Rattle.std.specs.Prelude.{vec_len}
use Rattle.std.specs.List.{list_all}
use Rattle.std.proofs.lemmas.List.{length-map}
use Rattle.iscsi_rules.specs.declared.event.Event.{Event}
use Rattle.iscsi_rules.specs.declared.event.Event.TheVariants.{Arrive, Done}
use Rattle.iscsi_rules.specs.rules.Settings.{is_known}
use Rattle.iscsi_threads.specs.rules.Journal.{cids_in}
use Rattle.iscsi_threads.proofs.OpenLemmas.{parts_none}
use Rattle.iscsi_recording.specs.Recorded.{belongs_to}
use Rattle.iscsi_replay.specs.promises.Threaded.{headers}
use Rattle.iscsi_replay.proofs.RefusalLemmas.{each_belongs}
use Rattle.iscsi_recording.proofs.SourceLemmas.{with_next, past_next}
use Rattle.iscsi_replay.proofs.ThreadLemmas.{place_is, place_some, parts_arrive, parts_done}
use Rattle.iscsi_replay.proofs.threading.lists_of.Goals as goal

pub events-init : goal.events-init
events-init c = record {
  before = [];
  whole = refl;
  lists = c.in_ok-lists.ensures ∙ parts_none c.args.conns.now;
}

pub events-preserved-in_default : goal.events-preserved-in_default
events-preserved-in_default c =
    let so_far = c.events.invariant in
    let t = c.in_default.field-0 in let s = c.in_default.field-1 in
    let next : c.events.cursor ≡ Done t s ∷ c.next.new.self = (c.next.ensures.some c.events-test.true) ∙ ap (λ (e : Event). e ∷ c.next.new.self) c.in_default.is in
    record {
      before = so_far.before ++ Done t s ∷ [];
      whole = past_next _ so_far.before c.events.cursor c.next.new.self (Done t s) so_far.whole next;
      lists = parts_done c.args.conns.now so_far.before t s _ so_far.lists;
    }

pub unreachable-requires : goal.unreachable-requires
unreachable-requires c =
    let conns = c.args.conns.now in
    let so_far = c.events.invariant in
    let whole = with_next _ so_far.before c.events.cursor c.next.new.self c.next.new.event so_far.whole (c.next.ensures.some c.events-test.true) in
    let all : list_all (belongs_to conns) c.cursor-cursor.result ≡ true = rw c.cursor-cursor.ensures c.requires.known in
    let known : is_known c.in-Arrive.conn conns ≡ true =
    ap (belongs_to conns) (sym c.in-Arrive.is) ∙ each_belongs (belongs_to conns) so_far.before c.next.new.self _ c.next.new.event whole all in
    place_some conns c.in-Arrive.conn known (sym c.place_of.ensures ∙ c.in_default-place_of.is)

pub push_at-requires : goal.push_at-requires
push_at-requires c =
    let conns = c.args.conns.now in
    let place = place_is conns c.in-Arrive.conn c.in-Some.at (0, 0) (sym c.place_of.ensures ∙ c.in-Some.is) in
    let lists = c.events.lists in
    let count : length lists.items ≡ length conns =
    sym (length-map lists.items headers) ∙ ap length c.events.invariant.lists ∙ length-map (cids_in conns) _ ∙ length-map conns (λ (k : ℕ × ℕ). k.0) in
    let long : vec_len lists ≡ length lists.items = search rules in
    omega (arith, place.0, count, long)

pub events-preserved : goal.events-preserved
events-preserved c =
    let so_far = c.events.invariant in
    let cid = c.in-Arrive.conn in let header = c.in-Arrive.header in
    let next : c.events.cursor ≡ Arrive cid header ∷ c.next.new.self = (c.next.ensures.some c.events-test.true) ∙ ap (λ (e : Event). e ∷ c.next.new.self) c.in-Arrive.is in
    record {
      before = so_far.before ++ Arrive cid header ∷ [];
      whole = past_next _ so_far.before c.events.cursor c.next.new.self (Arrive cid header) so_far.whole next;
      lists = parts_arrive c.args.conns.now so_far.before cid c.in-Some.at header _ _
          c.requires.distinct (sym c.place_of.ensures ∙ c.in-Some.is) so_far.lists c.in_ok-push_at.ensures;
    }
