use Rattle.std.proofs.Common.{◌≡◌, ◌∙◌, ap, sym, refl, rules, length, vec_len, true, false}
use Rattle.std.proofs.lemmas.Bool.{false≢true}
use Rattle.iscsi_threads.specs.promises.Serving.{is_quiet}
use Rattle.iscsi_threads.proofs.ServeLemmas.{posted_less}
use Rattle.iscsi_threads.proofs.serving.run_loop.Goals as goal

pub turn_until_quiet-requires : goal.turn_until_quiet-requires
turn_until_quiet-requires g c =
    let back = c.join_posts-ports.result.0 in
    let returned : length back.items ≡ vec_len c.args.posts = search rules in
    c.requires.rings back.items c.join_posts-ports.result.1 returned (c.join_posts-ports.ensures.1) ∙ sym (ap (λ p. p.0) c.turn_while_posting.ensures.same.rings)

pub returns-then-not-are_posted-clause-ports : goal.returns-then-not-are_posted-clause-ports
returns-then-not-are_posted-clause-ports g c =
    let back = c.join_posts-ports.result.0 in
    record {
      joined = back.items;
      len = search rules;
      kept = posted_less _ _ c.join_posts-ports.result.1 false _ (λ yes. absurd (false≢true yes)) c.join_posts-ports.ensures.1;
      rings = refl;
      posted_are = refl;
    }

pub returns-clause-ports : goal.returns-clause-ports
returns-clause-ports g c =
    let back = c.join_posts-ports.result.0 in
    let whole : c.join_posts-ports.result.1 ≡ true = search rules in
    record {
      joined = back.items;
      len = search rules;
      kept = posted_less _ _ c.join_posts-ports.result.1 (is_quiet c.in_ok-end.end) _ (λ yes. whole) c.join_posts-ports.ensures.1;
      rings = c.turn_until_quiet.ensures.rings;
      posted_are = c.turn_until_quiet.ensures.posted;
    }
