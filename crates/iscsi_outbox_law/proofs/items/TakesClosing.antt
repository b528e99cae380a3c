-- A Logout closes connections: the one that it came on, and others, of which what waits is dropped.
use Rattle.std.proofs.Common.{◌≡◌, ℕ, ◌==◌, not, cond, Bool, true, false, List, [], ◌∷◌, filter, filter_map, set, Option, Some, None, refl, ap, sym, subst, ◌∙◌, eq-eqb, ne_eqb}
use Rattle.std.specs.List.{cons_option}
use Rattle.std.proofs.lemmas.Bool.{eqb-true, false≢true}
use Rattle.iscsi_rules.specs.rules.Settings.{are_distinct}
use Rattle.iscsi_outbox_rules.specs.rules.Calls.{Opening}
use Rattle.iscsi_outbox_rules.specs.rules.Boxes.{Answer, Link, Box}
use Rattle.iscsi_outbox_rules.specs.rules.Words.{has_under_way}
use Rattle.iscsi_outbox_rules.specs.rules.Queues.{at_link, emptied}
use Rattle.iscsi_outbox_rules.specs.rules.Items.{close_all, close_one as close_one_box}
use Rattle.iscsi_outbox_rules.specs.rules.Run.{new_link}
use Rattle.iscsi_outbox_state.specs.declared.lane.Undue.{Undue}
use Rattle.iscsi_outbox_state.specs.declared.lane.Standing.{Standing}
use Rattle.iscsi_outbox_state.specs.declared.lane.Standing.TheVariants.{Left as IsLeft, Undue as IsUndue}
use Rattle.iscsi_outbox_steps.specs.State.{State, link_at}
use Rattle.iscsi_outbox_steps.specs.Steps.{close_each, close_itself, close_one, close_other}
use Rattle.iscsi_tracked.specs.Tracked.{Tracked}
use Rattle.iscsi_outbox_law.specs.private.Pairs.{place_in}
use Rattle.iscsi_outbox_law.specs.private.Commands.{is_under_way, link_in}
use Rattle.iscsi_outbox_law.specs.private.Lanes.{AreAnswers, IsAnswer}
use Rattle.iscsi_outbox_law.specs.private.Stands.{Stands}
use Rattle.iscsi_outbox_law.proofs.general.PairLemmas.{any-set}
use Rattle.iscsi_outbox_law.proofs.general.PlaceLemmas.{AreApart, IsPlace, at_none, at_place, conns_of, one_place, place_found, place_nowhere}
use Rattle.iscsi_outbox_law.proofs.connections.Standing.{counts_at, links_apart}
use Rattle.iscsi_outbox_law.proofs.connections.LinkChanges.{stands_moved, stands_set, stands_under}
use Rattle.iscsi_outbox_law.proofs.connections.CountChanges.{stands_closed, stands_cut, stands_queue}
use Rattle.iscsi_outbox_law.proofs.connections.Dropping.{answers_dropped, left_dropped}

abbrev pub closed_link : Link → Link
closed_link l = record l { closed = true }

abbrev pub cut_link : Link → Link
cut_link l = record l { closed = true; cut = true }

pub at_twice : (cid : ℕ) (links : List Link) → at_link cid emptied (at_link cid cut_link links) ≡ at_link cid (λ l. emptied (cut_link l)) links
at_twice cid [] = refl
at_twice cid (l ∷ links) =
    ap (λ m. m ∷ at_link cid emptied (at_link cid cut_link links)) (one (l.conn == cid) refl) ∙ ap (λ ls. cond (l.conn == cid) (emptied (cut_link l)) l ∷ ls) (at_twice cid links)
  where
    one : (w : Bool) → (l.conn == cid) ≡ w → cond ((cond (l.conn == cid) (cut_link l) l).conn == cid) (emptied (cond (l.conn == cid) (cut_link l) l)) (cond (l.conn == cid) (cut_link l) l) ≡ cond (l.conn == cid) (emptied (cut_link l)) l
    one true is =
        ap (λ (w : Bool). cond ((cond w (cut_link l) l).conn == cid) (emptied (cond w (cut_link l) l)) (cond w (cut_link l) l)) is
        ∙ ap (λ (w : Bool). cond w (emptied (cut_link l)) (cut_link l)) is ∙ sym (ap (λ (w : Bool). cond w (emptied (cut_link l)) l) is)
    one false isnt =
        ap (λ (w : Bool). cond ((cond w (cut_link l) l).conn == cid) (emptied (cond w (cut_link l) l)) (cond w (cut_link l) l)) isnt
        ∙ ap (λ (w : Bool). cond w (emptied l) l) isnt ∙ sym (ap (λ (w : Bool). cond w (emptied (cut_link l)) l) isnt)

module _ (o : Opening) (s : State) (b : Box) (h : Stands o s b) (apart : AreApart (conns_of b.links)) (cid p : ℕ) (at : IsPlace b.links cid p) where
  abbrev l : Link
  l = link_in b.links p

  itself_stands : Stands o (close_itself p s) (record b { links = at_link cid closed_link b.links })
  itself_stands =
      subst (λ ls. Stands o (close_itself p s) (record b { links = ls })) (sym (at_place closed_link b.links cid p apart at.within at.is))
      (stands_under (is_under_way o b.links) (is_under_way o (set b.links p (closed_link (link_in b.links p)))) o (close_itself p s) (record b { links = set b.links p (closed_link (link_in b.links p)) })
      (λ t. sym (any-set (has_under_way o (λ k. k == t)) b.links p (closed_link (link_in b.links p)) (new_link 0) refl))
      (stands_moved (is_under_way o b.links) o s b p (record (link_at s p) { closed = true }) (closed_link (link_in b.links p)) h at.within
      (record { conn = refl; handed = refl; stamps = λ place lt. refl; fence = λ none. none }) refl
      (stands_closed (link_at s p) (link_in b.links p) (counts_at (is_under_way o b.links) o s b h p at.within))))

  abbrev emptied_state : State
  emptied_state = record s { links = set s.links p (record (link_at s p) { closed = true; cut = true }); waits = record s.waits { queues = set s.waits.queues p [] } }

  emptied_stands : Stands o emptied_state (record b { links = set b.links p (emptied (cut_link (link_in b.links p))) })
  emptied_stands =
      stands_under (is_under_way o b.links) (is_under_way o (set b.links p (emptied (cut_link (link_in b.links p))))) o emptied_state (record b { links = set b.links p (emptied (cut_link (link_in b.links p))) })
      (λ t. sym (any-set (has_under_way o (λ k. k == t)) b.links p (emptied (cut_link (link_in b.links p))) (new_link 0) refl))
      (stands_set (is_under_way o b.links) o s b p (record (link_at s p) { closed = true; cut = true }) [] (emptied (cut_link (link_in b.links p))) h at.within
      (record { conn = refl; handed = refl; stamps = λ place lt. refl; fence = λ none. none }) tt
      (stands_queue (record (link_at s p) { closed = true; cut = true }) (cut_link (link_in b.links p)) (stands_cut (link_at s p) (link_in b.links p) (counts_at (is_under_way o b.links) o s b h p at.within)) []))

  same_place : (before : List Standing) (a : Undue) (answer : Answer) → IsAnswer s.limits.cids s.tracked before a answer → (a.conn == p) ≡ (answer.conn == cid)
  same_place before a answer k = by_same (answer.conn == cid) refl
    where
      there : IsPlace b.links answer.conn a.conn
      there = place_found s.limits.cids b.links answer.conn a.conn h.links.conns k.conn

      by_same : (w : Bool) → (answer.conn == cid) ≡ w → (a.conn == p) ≡ (answer.conn == cid)
      by_same true is = eq-eqb a.conn p (one_place b.links a.conn p apart there.within at.within (there.is ∙ eqb-true answer.conn cid is ∙ sym at.is)) ∙ sym is
      by_same false isnt = ne_eqb a.conn p (λ same. false≢true (sym isnt ∙ eq-eqb answer.conn cid (sym there.is ∙ ap (λ n. (link_in b.links n).conn) same ∙ at.is))) ∙ sym isnt

  other_stands : Stands o (close_other p s) (record b { links = at_link cid emptied (at_link cid cut_link b.links); undue = filter (λ (a : Answer). not (a.conn == cid)) b.undue })
  other_stands =
      subst (λ ls. Stands o (close_other p s) (record b { links = ls; undue = filter (λ (a : Answer). not (a.conn == cid)) b.undue }))
      (sym (at_twice cid b.links ∙ at_place (λ m. emptied (cut_link m)) b.links cid p apart at.within at.is))
      (let k = emptied_stands in
      record {
        sizes = record { limits = h.sizes.limits; waits = h.sizes.waits; answers = h.sizes.answers; commands = h.sizes.commands; trails = h.sizes.trails };
        numbers = record { time = h.numbers.time; exp = h.numbers.exp; max = h.numbers.max; shown = h.numbers.shown; reached = h.numbers.reached; sent = h.numbers.sent };
        links = k.links;
        queues = k.queues;
        commands = k.commands;
        placed = k.placed;
        trails = k.trails;
        left = left_dropped s.tracked p s.lane.items h.left;
        answers = answers_dropped s.limits.cids s.tracked p cid same_place [] s.lane.items b.undue h.answers;
        fence = k.fence;
      })

-- ---- one of them isn't there

quiet_answers : (cids : List ℕ) (v : Tracked) (cid : ℕ) → place_in cids cid ≡ None → (before items : List Standing) (answers : List Answer) → AreAnswers cids v before items answers → filter (λ (a : Answer). not (a.conn == cid)) answers ≡ answers
quiet_answers cids v cid none before [] [] h = refl
quiet_answers cids v cid none before [] (answer ∷ answers) h = absurd h
quiet_answers cids v cid none before (IsLeft c ∷ items) answers h = quiet_answers cids v cid none _ items answers h
quiet_answers cids v cid none before (IsUndue a ∷ items) [] h = absurd h
quiet_answers cids v cid none before (IsUndue a ∷ items) (answer ∷ answers) h =
    ap (λ (w : Bool). cond (not w) (answer ∷ filter (λ (x : Answer). not (x.conn == cid)) answers) (filter (λ (x : Answer). not (x.conn == cid)) answers))
    (ne_eqb answer.conn cid (λ same. (let e : None ≡ Some a.conn = sym none ∙ ap (place_in cids) (sym same) ∙ h.0.conn in absurd cc)))
    ∙ ap (λ xs. answer ∷ xs) (quiet_answers cids v cid none _ items answers h.1)

nowhere_stands : (o : Opening) (s : State) (b : Box) → Stands o s b → (cid : ℕ) → place_in s.limits.cids cid ≡ None
    → Stands o s (record b { links = at_link cid emptied (at_link cid cut_link b.links); undue = filter (λ (a : Answer). not (a.conn == cid)) b.undue })
nowhere_stands o s b h cid none =
    let away = place_nowhere s.limits.cids b.links cid h.links.conns none in
    subst (λ ls. Stands o s (record b { links = ls; undue = filter (λ (a : Answer). not (a.conn == cid)) b.undue })) (sym (at_twice cid b.links ∙ at_none (λ m. emptied (cut_link m)) b.links cid away))
    (subst (λ (answers : List Answer). Stands o s (record b { undue = answers })) (sym (quiet_answers s.limits.cids s.tracked cid none [] s.lane.items b.undue h.answers)) h)

-- ---- all of them

module _ (o : Opening) (distinct : are_distinct o.session.conns ≡ true) (cs : List ℕ) (by by_place : ℕ) (mine : place_in cs by ≡ Some by_place) where
  pub closes_from : (cids : List ℕ) (s : State) (b : Box) → Stands o s b → s.limits.cids ≡ cs → Stands o (close_each by_place (filter_map (place_in cs) cids) s) (close_all by cids b)
  closes_from [] s b h same = h
  closes_from (cid ∷ cids) s b h same = by_found (place_in cs cid) refl (λ x c k is. closes_from cids x c k is)
    where
      apart : AreApart (conns_of b.links)
      apart = links_apart (is_under_way o b.links) o s b h distinct

      there : (c q : ℕ) → place_in cs c ≡ Some q → IsPlace b.links c q
      there c q found = place_found cs b.links c q (h.links.conns ∙ same) found

      by_found : (x : Option ℕ) → place_in cs cid ≡ x → ((y : State) (c : Box) → Stands o y c → y.limits.cids ≡ cs → Stands o (close_each by_place (filter_map (place_in cs) cids) y) (close_all by cids c))
          → Stands o (close_each by_place (cons_option x (filter_map (place_in cs) cids)) s) (close_all by cids (close_one_box by cid b))
      by_found None none rest =
          subst (λ (w : Bool). Stands o (close_each by_place (filter_map (place_in cs) cids) s)
          (close_all by cids (cond w (record b { links = at_link cid closed_link b.links }) (record b { links = at_link cid emptied (at_link cid cut_link b.links); undue = filter (λ (a : Answer). not (a.conn == cid)) b.undue }))))
          (sym (ne_eqb cid by (λ is. (let e : None ≡ Some by_place = sym none ∙ ap (place_in cs) is ∙ mine in absurd cc))))
          (rest s (record b { links = at_link cid emptied (at_link cid cut_link b.links); undue = filter (λ (a : Answer). not (a.conn == cid)) b.undue }) (nowhere_stands o s b h cid (ap (λ ns. place_in ns cid) same ∙ none)) same)
      by_found (Some p) found rest = by_mine (cid == by) refl
        where
          at : IsPlace b.links cid p
          at = there cid p found

          home : IsPlace b.links by by_place
          home = there by by_place mine

          same_test : (w : Bool) → (cid == by) ≡ w → (p == by_place) ≡ (cid == by)
          same_test true is = eq-eqb p by_place (one_place b.links p by_place apart at.within home.within (at.is ∙ eqb-true cid by is ∙ sym home.is)) ∙ sym is
          same_test false isnt = ne_eqb p by_place (λ e. false≢true (sym isnt ∙ eq-eqb cid by (sym at.is ∙ ap (λ n. (link_in b.links n).conn) e ∙ home.is))) ∙ sym isnt

          after : Bool → Box
          after w = cond w (record b { links = at_link cid closed_link b.links }) (record b { links = at_link cid emptied (at_link cid cut_link b.links); undue = filter (λ (a : Answer). not (a.conn == cid)) b.undue })

          by_mine : (w : Bool) → (cid == by) ≡ w → Stands o (close_each by_place (filter_map (place_in cs) cids) (close_one by_place p s)) (close_all by cids (close_one_box by cid b))
          by_mine true is =
              subst (λ (w : Bool). Stands o (close_each by_place (filter_map (place_in cs) cids) (cond w (close_itself p s) (close_other p s))) (close_all by cids (close_one_box by cid b))) (sym (same_test true is ∙ is))
              (subst (λ (w : Bool). Stands o (close_each by_place (filter_map (place_in cs) cids) (close_itself p s)) (close_all by cids (after w))) (sym is)
              (rest (close_itself p s) (after true) (itself_stands o s b h apart cid p at) same))
          by_mine false is =
              subst (λ (w : Bool). Stands o (close_each by_place (filter_map (place_in cs) cids) (cond w (close_itself p s) (close_other p s))) (close_all by cids (close_one_box by cid b))) (sym (same_test false is ∙ is))
              (subst (λ (w : Bool). Stands o (close_each by_place (filter_map (place_in cs) cids) (close_other p s)) (close_all by cids (after w))) (sym is)
              (rest (close_other p s) (after false) (other_stands o s b h apart cid p at) same))
