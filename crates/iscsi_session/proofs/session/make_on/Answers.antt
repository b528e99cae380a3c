use Rattle.iscsi_session.proofs.Names.{Option, ◌+◌, [], rules, ℕ, ◌*◌, ◌≡◌, ◌≤◌, ap, arith, length, is_some, replicate, None, refl, List, vec_capacity, nat_tests, HeldRequest, opened_set, Connected, setting_of, is_place_known, tickets_of, set_opened, none_counted, all_none, so_many}
use Rattle.iscsi_window.specs.Windows.{opened}
use Rattle.iscsi_session.proofs.KeptLemmas.{AreCounted-opened}
use Rattle.iscsi_session.proofs.RunLemmas.{Settled-opened}
use Rattle.iscsi_session.proofs.session.make_on.Goals as goal

pub invariant_of-result : goal.invariant_of-result
invariant_of-result c =
    let o = c.args.options in
    let size : ℕ = o.window in
    let conns : List (ℕ × ℕ) = o.conns.items in
    let is : c.in_ok-ok.field-0 ≡ opened o.first size = search rules in
    let none : c.in_ok-ok-2.field-0.items ≡ [] = search rules in
    let live_room : size + c.from.result * c.len.result ≤ (c.in_ok-ok-2.field-0).room = search rules in
    let left_room : size + c.from.result * c.len.result ≤ vec_capacity c.in_ok-ok-3.field-0 = search rules in
    let most : size ≤ 1024 = search rules in
    let eight : c.from.result * c.len.result ≡ 8 * length conns = omega (arith, c.len.ensures, o.conns.ok.0, ap (λ n. n * c.len.result) c.from.ensures) in
    let long : length (opened {A = HeldRequest} o.first size).places ≡ size = so_many size None in
    let sets : length (replicate o.units (opened_set c.min.result)) ≡ o.units = so_many o.units (opened_set c.min.result) in
    let counted = none_counted {A = Option HeldRequest} is_some size refl in
    rw (is, none, c.in_ok-with_room.ensures, c.in_ok-open.ensures, c.requires.connections) (record {
      window = record { fits = omega arith; most = omega (arith, long); turned = omega (arith, counted); entered = omega (arith, counted); known = all_none (is_place_known conns) size refl };
      commands = record {
        numbered = omega arith;
        known = refl;
        in_sets = λ u lt. ap tickets_of (set_opened o.units u c.min.result (omega (arith, sets)));
        ascending = refl;
        within = refl;
        counted = AreCounted-opened (length conns) conns refl;
      };
      functions = record { before = refl; known = refl; may = refl; few = λ cid. omega arith };
      sets = λ u n lt few fits. rw (set_opened o.units u c.min.result (omega (arith, lt, sets))) (grind (arith, c.min.ensures, few, fits));
      live_fits = omega (arith, long, eight, live_room);
      waiting_fits = omega (arith, c.len-2.ensures, o.conns.ok.0);
      left_fits = omega (arith, long, eight, left_room);
      most = omega arith;
      few_events = grind (arith, nat_tests);
      few_conns = grind (arith, nat_tests);
      few_units = rw sets (grind (arith, nat_tests));
    })

pub returns : goal.returns
returns c = record {
  settled =
      let is : c.in_ok-ok.field-0 ≡ opened c.args.options.first c.args.options.window = search rules in
      let none : c.in_ok-ok-2.field-0.items ≡ [] = search rules in
      rw (is, none, c.in_ok-with_room.ensures, c.in_ok-open.ensures, ap (λ (x : Connected). x.conns) (c.requires.connections), ap (λ (x : Connected). x.open_conns) (c.requires.connections)) (Settled-opened (setting_of c.args.options) _ 0);
  taken = refl;
  belong = refl;
}
