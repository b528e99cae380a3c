use Rattle.std.proofs.Common.{◌≡◌, ◌<◌, [], ◌∙◌, ap, sym, rules, arith, length, vec_len, map}
use Rattle.std.proofs.lemmas.List.{length-map, length-replicate}
use Rattle.iscsi_threads.specs.rules.Ports.{taken, port_ring, unit_rings}
use Rattle.iscsi_threads.specs.private.Promises.{AllPosts, AllWorks}
use Rattle.iscsi_threads.specs.promises.Serving.{is_quiet}
use Rattle.iscsi_threads.proofs.Lists.{same_length}
use Rattle.iscsi_threads.proofs.ServeLemmas.{none_answered, PostsBack, posts_back, ListsPosted, lists_posted, WorksBack, works_back}
use Rattle.iscsi_threads.proofs.serving.within.Goals as goal

pub start_works-requires-clause-fresh : goal.start_works-requires-clause-fresh
start_works-requires-clause-fresh g c = λ lifetimes inside i d lt.
    let was = c.requires.0 in
    let low : i < length c.args.units.items = search rules in
    none_answered c.args.units.items _ was.taken_are was.answered_are i d low

pub run_loop-requires-clause-rings : goal.run_loop-requires-clause-rings
run_loop-requires-clause-rings g c = λ back whole len joined.
    let hs = c.start_posts.new.handles in let ports = c.args.ports.items in
    let posts : (vec_len hs ≡ vec_len c.args.ports) × AllPosts hs.items ports c.args.lists.now (vec_len c.args.ports) = c.in_ok-start_posts.ensures.posts in
    let many : vec_len c.args.ports ≡ length ports = search rules in
    let started : vec_len hs ≡ length hs.items = search rules in
    let b : PostsBack ports back c.args.lists.now whole = posts_back hs.items ports back c.args.lists.now whole (omega (arith, posts.0, many, started)) (omega (arith, len, posts.0, many)) (omega (arith, c.requires.1, many)) (rw many at posts.1) (rw (posts.0, many) at joined) in
    b.rings ∙ c.requires.0.belong.0

pub returns : goal.returns
returns g c =
    let hs = c.start_posts.new.handles in let ports = c.args.ports.items in let ends = c.in_ok-ports.ports.items in
    let ws = c.start_works.new.handles in let units = c.args.units.items in let back_units = c.join_works-units.result.items in
    let lists = c.args.lists.now in
    let was = c.requires.0 in
    let whole = is_quiet c.in_ok-ports.end in
    let posts : (vec_len hs ≡ vec_len c.args.ports) × AllPosts hs.items ports lists (vec_len c.args.ports) = c.in_ok-start_posts.ensures.posts in
    let many : vec_len c.args.ports ≡ length ports = search rules in
    let started : vec_len hs ≡ length hs.items = search rules in
    let came = c.in_ok-ports.ensures.ports in
    let back = came.joined in
    let counts : length back ≡ length ports = omega (arith, came.len, posts.0, many) in
    let listed : length lists ≡ length ports = omega (arith, c.requires.1, many) in
    let b : PostsBack ports back lists whole = posts_back hs.items ports back lists whole (omega (arith, posts.0, many, started)) counts listed (rw many at posts.1) (rw (posts.0, many) at came.kept) in
    let l : ListsPosted lists ends whole = lists_posted ports back ends lists _ whole listed counts was.posted_are came.posted_are b in
    let works : (vec_len ws ≡ vec_len c.args.units) × AllWorks ws.items units (vec_len c.args.units) = c.in_ok-start_works.ensures.works in
    let joined' = c.join_works-units.ensures in
    let many' : vec_len c.args.units ≡ length units = search rules in
    let started' : vec_len ws ≡ length ws.items = search rules in
    let returned' : vec_len c.join_works-units.result ≡ length back_units = search rules in
    let w : WorksBack units back_units = works_back ws.items units back_units (omega (arith, works.0, many', started')) (omega (arith, joined'.0, works.0, many', returned')) (rw many' at works.1) (rw (works.0, many') at joined'.1) in
    let same = c.run_loop.ensures.same in
    let rings : map port_ring ends ≡ map port_ring ports = came.rings ∙ b.rings in
    let len : length ends ≡ length ports = same_length port_ring port_ring ends ports rings in
    record {
      setting_is = same.setting;
      belong = (rings ∙ was.belong.0 ∙ sym (ap (λ p. p.0) same.rings), w.rings ∙ was.belong.1 ∙ sym (ap (λ p. p.1) same.rings));
      ports_len = omega (arith, len, listed);
      units_len = sym (length-map back_units unit_rings) ∙ ap length w.rings ∙ length-map units unit_rings ∙ sym (length-map units taken) ∙ ap length was.taken_are ∙ length-replicate _ [];
      fronts = l.fronts;
      posted_are = l.posted_are;
      ended = c.in_ok-ports.ensures.end;
      in_turn = λ i q lt. w.in_turn i q (omega (arith, lt, joined'.0, works.0, many', returned'));
    }
