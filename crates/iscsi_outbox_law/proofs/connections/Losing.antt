-- The transport of a connection is gone: the state after it.
use Rattle.std.proofs.Common.{◌≡◌, ℕ, ◌+◌, ◌-◌, ◌<◌, ◌≤◌, ◌==◌, ◌^◌, not, cond, Bool, true, false, List, [], ◌∷◌, ◌++◌, length, filter, set, Option, Some, None, refl, ap, sym, subst, ◌∙◌, arith, eq-eqb, ne_eqb}
use Rattle.std.proofs.lemmas.Bool.{eqb-true, false≢true}
use Rattle.iscsi_rules.specs.rules.Settings.{are_distinct}
use Rattle.iscsi_arrivals.specs.Standing.{StandsFor}
use Rattle.iscsi_outbox_rules.specs.rules.Calls.{Opening}
use Rattle.iscsi_outbox_rules.specs.rules.Boxes.{Answer, Link, Box}
use Rattle.iscsi_outbox_rules.specs.rules.Words.{contains, is_left}
use Rattle.iscsi_outbox_rules.specs.rules.Queues.{at_link, drop_on, emptied}
use Rattle.iscsi_outbox_rules.specs.rules.Due.{settle as settle_box}
use Rattle.iscsi_outbox_rules.specs.promises.Room.{Fits, places}
use Rattle.iscsi_outbox_rules.specs.rules.Run.{after_lost, link_lost}
use Rattle.iscsi_outbox_state.specs.declared.lane.Undue.{Undue}
use Rattle.iscsi_outbox_state.specs.declared.lane.Standing.{Standing}
use Rattle.iscsi_outbox_state.specs.declared.lane.Standing.TheVariants.{Left as IsLeft, Undue as IsUndue}
use Rattle.iscsi_outbox_steps.specs.State.{State, link_at, place_of}
use Rattle.iscsi_outbox_steps.specs.Steps.{lost, lost_on, settle, trail}
use Rattle.iscsi_tracked.specs.Tracked.{Tracked, trail_at}
use Rattle.iscsi_outbox_law.specs.private.Pairs.{place_in}
use Rattle.iscsi_outbox_law.specs.private.Commands.{is_under_way, link_in}
use Rattle.iscsi_outbox_law.specs.private.Lanes.{AreAnswers, IsAnswer}
use Rattle.iscsi_outbox_law.specs.private.Sound.{IsSound}
use Rattle.iscsi_outbox_law.specs.private.Stands.{Stands, StandsWith}
use Rattle.iscsi_outbox_law.proofs.general.PairLemmas.{each-filter}
use Rattle.iscsi_outbox_law.proofs.general.Members.{same_tests}
use Rattle.iscsi_outbox_law.proofs.general.PlaceLemmas.{AreApart, IsPlace, at_none, at_place, conns_of, one_place, place_found}
use Rattle.iscsi_outbox_law.proofs.connections.Standing.{counts_at, links_apart, stands_nowhere, stands_there}
use Rattle.iscsi_outbox_law.proofs.connections.LinkChanges.{Moves, stands_set}
use Rattle.iscsi_outbox_law.proofs.connections.CountChanges.{stands_lost, stands_queue}
use Rattle.iscsi_outbox_law.proofs.queues.Rooms.{replies_queued}
use Rattle.iscsi_outbox_law.proofs.calls.Calm.{calm, room_there}
use Rattle.iscsi_outbox_law.proofs.queues.Settling.{IsCalm, settle_stands}
use Rattle.iscsi_outbox_law.proofs.connections.Dropping.{answers_dropped, kept_answers, left_dropped}
use Rattle.iscsi_outbox_law.proofs.arrivals.Trails.{Walks, walk}
use Rattle.iscsi_outbox_law.proofs.arrivals.Silence.{calm_at, never_open, quiets_lost, replies_at, walks_start}

-- what a connection that is lost becomes
abbrev gone : Link → Link
gone l = emptied (link_lost l)

-- ---- lists

both_at : (cid : ℕ) (links : List Link) → at_link cid emptied (at_link cid link_lost links) ≡ at_link cid gone links
both_at cid [] = refl
both_at cid (l ∷ links) =
    let rest = both_at cid links in
    elim (l.conn == cid) as (λ v. (l.conn == cid) ≡ v → cond ((cond v (link_lost l) l).conn == cid) (emptied (cond v (link_lost l) l)) (cond v (link_lost l) l) ∷ at_link cid emptied (at_link cid link_lost links) ≡ cond v (gone l) l ∷ at_link cid gone links) [
      | true ↦ λ is. ap (λ (w : Bool). cond w (gone l) (link_lost l) ∷ at_link cid emptied (at_link cid link_lost links)) is ∙ ap (λ ls. gone l ∷ ls) rest
      | false ↦ λ is. ap (λ (w : Bool). cond w (emptied l) l ∷ at_link cid emptied (at_link cid link_lost links)) is ∙ ap (λ ls. l ∷ ls) rest
    ] refl

fewer_kept : (p : Answer → Bool) (answers : List Answer) → length (filter p answers) ≤ length answers
fewer_kept p [] = omega arith
fewer_kept p (a ∷ answers) =
    let rest = fewer_kept p answers in
    elim (p a) as (λ v. length (cond v (a ∷ filter p answers) (filter p answers)) ≤ length (a ∷ answers)) [ true ↦ omega (arith, rest) | false ↦ omega (arith, rest) ]

-- where no connection has this CID, no answer goes there
all_kept : (cids : List ℕ) (v : Tracked) (cid : ℕ) → place_in cids cid ≡ None → (before items : List Standing) (answers : List Answer) → AreAnswers cids v before items answers → kept_answers cid answers ≡ answers
all_kept cids v cid none before [] [] h = refl
all_kept cids v cid none before [] (answer ∷ answers) h = absurd h
all_kept cids v cid none before (IsLeft c ∷ items) answers h = all_kept cids v cid none (before ++ IsLeft c ∷ []) items answers h
all_kept cids v cid none before (IsUndue a ∷ items) [] h = absurd h
all_kept cids v cid none before (IsUndue a ∷ items) (answer ∷ answers) h =
    let k : IsAnswer cids v before a answer = h.0 in
    let other : (answer.conn == cid) ≡ false = ne_eqb answer.conn cid (λ same. (let e = k.conn in let f = ap (place_in cids) same in absurd cc)) in
    ap (λ (w : Bool). cond (not w) (answer ∷ kept_answers cid answers) (kept_answers cid answers)) other ∙ ap (λ xs. answer ∷ xs) (all_kept cids v cid none (before ++ IsUndue a ∷ []) items answers h.1)

-- ---- the connection

moves_gone : (l : Link) → Moves l (gone l)
moves_gone l = record { conn = refl; handed = refl; stamps = λ place lt. refl; fence = λ none opens. absurd (false≢true (sym (never_open l.joined) ∙ opens)) }

module _ (o : Opening) (s : State) (b : Box) (h : Stands o s b) (sound : IsSound o b) (distinct : are_distinct o.session.conns ≡ true) (fits : Fits o b) (cid : ℕ) where
  abbrev b' : Box
  b' = drop_on cid (record b { links = at_link cid link_lost b.links; reached = 0 })

  apart : AreApart (conns_of b.links)
  apart = links_apart (is_under_way o b.links) o s b h distinct

  -- ---- it is one of the session's

  module _ (p : ℕ) (found : place_of s cid ≡ Some p) where
    at : IsPlace b.links cid p
    at = stands_there (is_under_way o b.links) o s b h cid p found

    same_place : (before : List Standing) (a : Undue) (answer : Answer) → IsAnswer s.limits.cids s.tracked before a answer → (a.conn == p) ≡ (answer.conn == cid)
    same_place before a answer k =
        same_tests (a.conn == p) (answer.conn == cid)
        (λ is. (let there : IsPlace b.links answer.conn a.conn = place_found s.limits.cids b.links answer.conn a.conn h.links.conns k.conn in
        eq-eqb answer.conn cid (sym there.is ∙ ap (λ n. (link_in b.links n).conn) (eqb-true a.conn p is) ∙ at.is)))
        (λ is. (let there : IsPlace b.links answer.conn a.conn = place_found s.limits.cids b.links answer.conn a.conn h.links.conns k.conn in
        eq-eqb a.conn p (one_place b.links a.conn p apart there.within at.within (there.is ∙ eqb-true answer.conn cid is ∙ sym at.is))))

    links_are : at_link cid emptied (at_link cid link_lost b.links) ≡ set b.links p (gone (link_in b.links p))
    links_are = both_at cid b.links ∙ at_place gone b.links cid p apart at.within at.is

    counts_stand : StandsFor (record (link_at s p) { lost = true }) (gone (link_in b.links p))
    counts_stand = stands_queue (record (link_at s p) { lost = true }) (link_lost (link_in b.links p)) (stands_lost (link_at s p) (link_in b.links p) (counts_at (is_under_way o b.links) o s b h p at.within)) []

    set_now : StandsWith (is_under_way o b.links) o (record s { links = set s.links p (record (link_at s p) { lost = true }); waits = record s.waits { queues = set s.waits.queues p [] } }) (record b { links = set b.links p (gone (link_in b.links p)) })
    set_now = stands_set (is_under_way o b.links) o s b p (record (link_at s p) { lost = true }) [] (gone (link_in b.links p)) h at.within (moves_gone (link_in b.links p)) tt counts_stand

    dropped_set : StandsWith (is_under_way o b.links) o (lost_on p (record s { reached = 0 })) (record b { links = set b.links p (gone (link_in b.links p)); reached = 0; undue = kept_answers cid b.undue })
    dropped_set = record {
      sizes = record { limits = set_now.sizes.limits; waits = set_now.sizes.waits; answers = set_now.sizes.answers; commands = set_now.sizes.commands; trails = set_now.sizes.trails };
      numbers = record { time = set_now.numbers.time; exp = set_now.numbers.exp; max = set_now.numbers.max; shown = set_now.numbers.shown; reached = refl; sent = set_now.numbers.sent };
      links = set_now.links;
      queues = set_now.queues;
      commands = set_now.commands;
      placed = set_now.placed;
      trails = set_now.trails;
      left = left_dropped s.tracked p s.lane.items h.left;
      answers = answers_dropped s.limits.cids s.tracked p cid same_place [] s.lane.items b.undue h.answers;
      fence = set_now.fence;
    }

    dropped_now : StandsWith (is_under_way o b.links) o (lost_on p (record s { reached = 0 })) b'
    dropped_now = subst (λ ls. StandsWith (is_under_way o b.links) o (lost_on p (record s { reached = 0 })) (record b { links = ls; reached = 0; undue = kept_answers cid b.undue })) (sym links_are) dropped_set

    walks_now : Walks o b' cid (is_under_way o b.links)
    walks_now =
        subst (λ ls. Walks o (record b { links = ls; reached = 0; undue = kept_answers cid b.undue }) cid (is_under_way o b.links)) (sym links_are)
        (let w : Walks o (record b { links = set b.links p (gone (link_in b.links p)) }) cid (is_under_way o b.links) = walks_start o b sound.homes cid p at (gone (link_in b.links p)) (quiets_lost o (link_in b.links p)) in
        record { more = w.more; here = w.here })

  -- ---- what the box keeps

  calm_now : IsCalm o b' b'.undue
  calm_now =
      let k : IsCalm o b b.undue = calm o s b h sound distinct in
      let e : IsCalm o (record b { links = at_link cid gone b.links }) b.undue = calm_at cid gone o b b.undue (quiets_lost o) (λ l. omega arith) k in
      subst (λ ls. IsCalm o (record b { links = ls; reached = 0; undue = kept_answers cid b.undue }) (kept_answers cid b.undue)) (sym (both_at cid b.links))
      (record {
        homes = record { ascending = e.homes.ascending; handed = e.homes.handed };
        apart = e.apart;
        own = e.own;
        scopes = each-filter (λ (a : Answer). (n : ℕ) → contains a.out.scope n ≡ true → is_left b n ≡ true) (λ (a : Answer). not (a.conn == cid)) b.undue e.scopes;
      })

  room_now : length b'.undue + replies_queued b'.links ≤ places o
  room_now =
      let e = fewer_kept (λ (a : Answer). not (a.conn == cid)) b.undue in
      let f : replies_queued (at_link cid gone b.links) ≤ replies_queued b.links = replies_at cid gone (λ l. omega arith) b.links in
      let g = ap replies_queued (both_at cid b.links) in
      let k = room_there o s b h sound distinct fits in omega (arith, e, f, g, k)

  pub loses_stands : (after_lost o b cid).time < 2 ^ 64 - 1 → Stands o (lost cid s) (after_lost o b cid)
  loses_stands timed = by_place (place_of s cid) refl
    where
      at_known : (p : ℕ) → place_of s cid ≡ Some p → Stands o (settle (trail p (lost_on p (record s { reached = 0 })))) (settle_box o b')
      at_known p found =
          settle_stands o (trail p (lost_on p (record s { reached = 0 }))) b'
          (walk o b' calm_now.homes calm_now.apart cid p (stands_there (is_under_way o b.links) o (lost_on p (record s { reached = 0 })) b' (dropped_now p found) cid p found) (length (trail_at s.tracked p)) (is_under_way o b.links)
          (lost_on p (record s { reached = 0 })) (dropped_now p found) (walks_now p found) (omega arith))
          calm_now room_now timed

      -- no connection has this CID
      same_box : place_of s cid ≡ None → b' ≡ record b { reached = 0 }
      same_box none =
          ap (λ ls. let x : Box = record b { links = ls; reached = 0; undue = kept_answers cid b.undue } in x)
          (both_at cid b.links ∙ at_none gone b.links cid (stands_nowhere (is_under_way o b.links) o s b h cid none))
          ∙ ap (λ answers. let x : Box = record b { reached = 0; undue = answers } in x) (all_kept s.limits.cids s.tracked cid none [] s.lane.items b.undue h.answers)

      unread : Stands o (record s { reached = 0 }) (record b { reached = 0 })
      unread = record {
        sizes = record { limits = h.sizes.limits; waits = h.sizes.waits; answers = h.sizes.answers; commands = h.sizes.commands; trails = h.sizes.trails };
        numbers = record { time = h.numbers.time; exp = h.numbers.exp; max = h.numbers.max; shown = h.numbers.shown; reached = refl; sent = h.numbers.sent };
        links = h.links;
        queues = h.queues;
        commands = h.commands;
        placed = h.placed;
        trails = h.trails;
        left = h.left;
        answers = h.answers;
        fence = h.fence;
      }

      at_unknown : place_of s cid ≡ None → Stands o (settle (record s { reached = 0 })) (settle_box o b')
      at_unknown none = settle_stands o (record s { reached = 0 }) b' (subst (Stands o (record s { reached = 0 })) (sym (same_box none)) unread) calm_now room_now timed

      by_place : (x : Option ℕ) → place_of s cid ≡ x → Stands o (elim x as (λ (y : Option ℕ). State) [ Some p ↦ settle (trail p (lost_on p (record s { reached = 0 }))) | None ↦ settle (record s { reached = 0 }) ]) (settle_box o b')
      by_place None none = at_unknown none
      by_place (Some p) found = at_known p found
