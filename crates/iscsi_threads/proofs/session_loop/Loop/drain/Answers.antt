use Rattle.std.proofs.Common.{refl, ◌≡◌, ℕ, ◌<◌, ◌∙◌, ◌++◌, List, ap, sym, subst, arith, length, map, append_assoc, true, get_or, vec_len}
use Rattle.std.specs.List.{range_with_len}
use Rattle.std.proofs.lemmas.List.{length-map, map-append}
use Rattle.iscsi_rules.specs.rules.Run.{run_of}
use Rattle.iscsi_session.specs.promises.Settings.{setting_of}
use Rattle.iscsi_threads.specs.rules.Ports.{Answer, port_ring, unit_rings, taken}
use Rattle.iscsi_threads.specs.rules.Outlets.{inlet_ring, outlet_rings, got, given, heard}
use Rattle.iscsi_threads.specs.rules.Journal.{cids_of, part, jobs_of, done, are_sources}
use Rattle.iscsi_threads.specs.rules.Jobs.{jobs}
use Rattle.iscsi_threads.specs.promises.Outcomes.{ticket_of}
use Rattle.iscsi_threads.proofs.Lists.{map_at, some_of, same_length}
use Rattle.iscsi_threads.proofs.Journals.{zero_range_get, range_length}
use Rattle.iscsi_threads.proofs.FinishLemmas.{jobs_at, prefix_append}
use Rattle.iscsi_threads.proofs.JobLaws.{gives_jobs}
use Rattle.iscsi_threads.proofs.session_loop.Loop.drain.Goals as goal

pub drain_inlets-requires-clause-room : goal.drain_inlets-requires-clause-room
drain_inlets-requires-clause-room c =
    let size = same_length port_ring inlet_ring c.args.ports.items c.args.self.inlets.items c.requires.belong.0 in
    let lens = c.requires.rooms.lens in
    (omega arith, omega arith, c.requires.rooms.left)

pub drain_outlets-requires-clause-lens : goal.drain_outlets-requires-clause-lens
drain_outlets-requires-clause-lens c =
    let size = same_length unit_rings outlet_rings c.args.units.items c.args.self.outlets.items c.requires.belong.1 in
    let lens = c.requires.rooms.lens in
    (omega arith, omega arith, omega arith)

pub drain_outlets-requires-clause-room : goal.drain_outlets-requires-clause-room
drain_outlets-requires-clause-room c =
    let size = same_length unit_rings outlet_rings c.args.units.items c.args.self.outlets.items c.requires.belong.1 in (
      (λ i o v lt. let room = c.requires.rooms.untaken i o v (omega arith) in (room.0, omega arith)),
      c.requires.rooms.unread,
    )

pub drain_fresh-requires : goal.drain_fresh-requires
drain_fresh-requires c = λ i v lt.
    let size = same_length unit_rings outlet_rings c.args.units.items c.args.self.outlets.items c.requires.belong.1 in
    let lens = c.requires.rooms.lens in let len = c.drain_outlets.ensures.len.0 in
    let here : i < length c.args.self.outlets.items = omega arith in
    let there : i < length c.args.units.items = omega arith in
    let o = some_of c.args.self.outlets.items i here in let q = some_of c.args.units.items i there in
    let new = c.drain_outlets.new.unread.items in
    let more : i < length new = omega (arith, c.drain_outlets.ensures.len.1) in
    let unit = c.drain_outlets.ensures.left i q o v v (some_of new i more) (omega arith) in
    let room = c.requires.rooms.untaken i o v (omega arith) in
    omega arith

pub returns : goal.returns
returns c =
    let s = c.args.self in let o = setting_of s.options in let j = s.journal.items in let n = vec_len s.outlets in let log = run_of o j in
    let inlets = s.inlets.items in let outlets = s.outlets.items in
    let ports = same_length port_ring inlet_ring c.args.ports.items inlets c.requires.belong.0 in
    let units = same_length unit_rings outlet_rings c.args.units.items outlets c.requires.belong.1 in
    let lens = c.requires.rooms.lens in
    let cids = length-map s.options.conns.items (λ (conn : ℕ × ℕ). conn.0) in
    let size = range_length 0 n in
    record {
      journal_is = refl;
      sources_are = refl;
      accounted = record {
        sourced = subst (λ k. are_sources (cids_of o) k j s.from.items ≡ true) s.sizes.3 s.sourced;
        gives = gives_jobs o j;
        lefts = omega (arith, c.drain_inlets.ensures.len);
        untakens = omega (arith, c.drain_fresh.ensures.len, c.drain_outlets.ensures.len.0);
        unreads = omega (arith, c.drain_outlets.ensures.len.1);
        all_posted = λ i p v lt.
            let here : i < length inlets = omega arith in
            let cid : i < length (cids_of o) = omega (arith, s.sizes.2) in
            let inlet = some_of inlets i here in
            c.drain_inlets.ensures.left i p inlet v (omega arith)
            ∙ ap (λ (w : List (List ℕ)). w ++ (get_or c.drain_inlets.new.left.items i v).items) (map_at got (λ k. part k j) inlets (cids_of o) i inlet 0 s.headers here cid);
        all_done = λ u q v w lt.
            let here : u < length outlets = omega arith in
            let low : u < n = omega arith in
            let key : u < length (range_with_len 0 n) = omega arith in
            let outlet = some_of outlets u here in
            let unit = c.drain_outlets.ensures.left u q outlet v v w (omega arith) in
            let took = taken (get_or c.args.units.items u q) in
            let gave : jobs u log ≡ given (get_or outlets u outlet) ++ jobs_of u s.fresh.items =
            jobs_at n (λ k. jobs k log) outlets s.fresh.items u outlet (omega arith) low s.jobs
            in
            let last = map ticket_of (jobs_of u s.fresh.items) in
            let some = (get_or c.drain_outlets.new.untaken.items u v).items in
            let heard_is : heard (get_or outlets u outlet) ≡ done u j s.from.items =
            map_at heard (λ k. done k j s.from.items) outlets (range_with_len 0 n) u outlet 0 s.answers here key ∙ ap (λ (k : ℕ). done k j s.from.items) (zero_range_get n u low)
            in
            record {
              taken_first = rw gave (prefix_append took (given (get_or outlets u outlet)) (jobs_of u s.fresh.items) unit.taken_first);
              all_jobs =
                  ap (map ticket_of) gave
                  ∙ map-append ticket_of (given (get_or outlets u outlet)) (jobs_of u s.fresh.items)
                  ∙ ap (λ (l : List ℕ). l ++ last) unit.all_given
                  ∙ append_assoc (map ticket_of took) some last
                  ∙ ap (λ (l : List ℕ). map ticket_of took ++ l) (sym (c.drain_fresh.ensures.noted u v v (omega (arith, c.drain_outlets.ensures.len.0))));
              all_answers = unit.all_answers ∙ ap (λ (l : List Answer). l ++ (get_or c.drain_outlets.new.unread.items u w).items) heard_is;
            };
      };
    }
