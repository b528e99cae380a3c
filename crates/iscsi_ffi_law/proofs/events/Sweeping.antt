-- What the steps sweep at the end of an event: what waits still on a connection where nothing goes out any more, since another one's Logout closed it in this event.
use Rattle.std.proofs.Common.{◌≡◌, ℕ, zero, suc, ◌<◌, ◌≤◌, ◌==◌, ◌&&◌, not, cond, Bool, true, false, List, [], ◌∷◌, ◌++◌, length, map, set, count_by, inl, inr, ◌⊎◌, Option, Some, refl, ap, sym, ◌∙◌, ⊎_elim, arith, eq-eqb, length-append, length-set, ◌+◌}
use Rattle.std.proofs.lemmas.List.{length-map, set-get_or}
use Rattle.std.proofs.lemmas.Bool.{cases_lt, eqb-true, false≢true}
use Rattle.iscsi_rules.specs.rules.Settings.{are_distinct}
use Rattle.iscsi_rules.proofs.general.BoolLemmas.{and_parts}
use Rattle.iscsi_rules.proofs.general.ElementLemmas.{In}
use Rattle.iscsi_arrivals.specs.Standing.{StandsFor}
use Rattle.iscsi_outbox_rules.specs.rules.Boxes.{Answer, Link, Outgoing}
use Rattle.iscsi_outbox_rules.specs.rules.Queues.{takes_more}
use Rattle.iscsi_outbox_rules.specs.rules.Run.{new_link}
use Rattle.iscsi_outbox_rules.specs.rules.Words.{is_open}
use Rattle.iscsi_outbox_law.specs.private.Commands.{is_under_way, link_in}
use Rattle.iscsi_outbox_law.specs.private.Pairs.{EachOf}
use Rattle.iscsi_outbox_law.specs.private.Sound.{IsAnswerSound, IsLinkSound, IsSound}
use Rattle.iscsi_outbox_law.specs.private.Stands.{Stands as OutboxStands}
use Rattle.iscsi_outbox_law.proofs.general.PairLemmas.{each-at}
use Rattle.iscsi_outbox_law.proofs.general.PlaceLemmas.{one_place}
use Rattle.iscsi_outbox_law.proofs.connections.Standing.{counts_at, links_apart}
use Rattle.iscsi_outbox_steps.specs.State.{State as OutboxState, link_at}
use Rattle.iscsi_requests.specs.Conns.{count_all, of_conn}
use Rattle.iscsi_requests.specs.Replies.{WaitingReplies, has_log_place}
use Rattle.iscsi_requests.specs.Unwritten.{Unwritten}
use Rattle.iscsi_requests.specs.declared.replies.WaitingReply.{WaitingReply}
use Rattle.iscsi_ffi_rules.specs.rules.Calls.{Interface}
use Rattle.iscsi_ffi_rules.specs.rules.Needs.{is_noted}
use Rattle.iscsi_ffi_rules.specs.rules.Sides.{Side}
use Rattle.iscsi_ffi_steps.specs.State.{State}
use Rattle.iscsi_ffi_rules.specs.rules.Run.{cids}
use Rattle.iscsi_ffi_steps.specs.Walk.{Doing, drop_noted, drop_replies, drop_waiting, keeps, release_if, sweep}
use Rattle.iscsi_ffi_law.specs.Uses.{count_lists, is_place}
use Rattle.iscsi_ffi_law.proofs.requests.Aside.{release_aside, release_outbox, set_waiting}
use Rattle.iscsi_ffi_law.proofs.logouts.Dropping.{endings_append, endings_places, endings_replies, releases_append, waiting_dropped}
use Rattle.iscsi_ffi_law.proofs.requests.Releases.{endings, releases}
use Rattle.iscsi_ffi_law.proofs.events.Unswept.{Unswept, joined, joined_at, joined_cleared, joined_long, joined_nothing, unswept_at, with_noted, with_replies}
use Rattle.iscsi_ffi_law.specs.Names.{Name, Note}
use Rattle.iscsi_ffi_law.specs.Parts.{is_sent_at}
use Rattle.iscsi_ffi_law.specs.Stands.{AreRequests, AreSizes}
use Rattle.iscsi_ffi_law.proofs.calls.Finish.{as_many_links}
use Rattle.iscsi_ffi_law.proofs.requests.Kept.{count_nothing}
use Rattle.iscsi_ffi_law.proofs.general.Members.{PassingAt, any_at, each_in, in_counted}

-- a place beyond all has nothing
none_beyond : {X : Type 0} (lists : List (List X)) (p : ℕ) → length lists ≤ p → of_conn p lists ≡ []
none_beyond [] p long = refl
none_beyond (xs ∷ lists) zero long = absurd (let no : ⊥ = omega (arith, long) in no)
none_beyond (xs ∷ lists) (suc p) long = none_beyond lists p (omega (arith, long))

not_false : (v : Bool) → not v ≡ false → v ≡ true
not_false true is = refl
not_false false is = absurd (false≢true (sym is))

no_length : {X : Type 0} (xs : List X) → length xs ≡ 0 → xs ≡ []
no_length [] none = refl
no_length (x ∷ xs) none = absurd (let no : ⊥ = omega (arith, none) in no)

module _ (i : Interface) (names : List Name) (notes : List Note) (pending : ℕ → ℕ) (gone : ℕ → List (Option ℕ)) (s : State) (r : Side) (a : AreRequests names notes pending gone s r) (h : OutboxStands i.outbox s.outbox r.both.box) (sizes : AreSizes i s)
    (sound : IsSound i.outbox r.both.box) (emptied : EachOf (λ (l : Link). l.cut ≡ true → l.queue ≡ []) r.both.box.links) (distinct : are_distinct i.outbox.session.conns ≡ true) where
  module _ (p : ℕ) (within : p < length r.both.box.links) (none : takes_more (link_in r.both.box.links p) ≡ false) where
    abbrev l : Link
    l = link_in r.both.box.links p

    none_queued : l.queue ≡ []
    none_queued = by_open (is_open l) refl
      where
        by_open : (v : Bool) → is_open l ≡ v → l.queue ≡ []
        by_open false is = (each-at (IsLinkSound i.outbox r.both.box.tasks) r.both.box.links p (new_link 0) within sound.links).idle is
        by_open true is = each-at (λ (m : Link). m.cut ≡ true → m.queue ≡ []) r.both.box.links p (new_link 0) within emptied (not_false l.cut (ap (λ v. v && not l.cut) (sym is) ∙ none))

    -- no answer would go there
    none_due : (place : ℕ) → count_by (λ (x : Answer). x.conn == l.conn && is_sent_at place x.out) r.both.box.undue ≡ 0
    none_due place = count_nothing (λ (x : Answer). x.conn == l.conn && is_sent_at place x.out) r.both.box.undue (λ x there. by_conn x there (x.conn == l.conn) refl)
      where
        by_conn : (x : Answer) → In x r.both.box.undue → (v : Bool) → (x.conn == l.conn) ≡ v → (x.conn == l.conn && is_sent_at place x.out) ≡ false
        by_conn x there false is = ap (λ v. v && is_sent_at place x.out) is
        by_conn x there true is =
            let k : IsAnswerSound r.both.box x = each_in (IsAnswerSound r.both.box) r.both.box.undue x there sound.undue in
            let at : PassingAt (λ (m : Link). m.conn == x.conn && takes_more m) r.both.box.links (new_link 0) = any_at (λ (m : Link). m.conn == x.conn && takes_more m) r.both.box.links (new_link 0) k.taken in
            let parts = and_parts ((link_in r.both.box.links at.place).conn == x.conn) (takes_more (link_in r.both.box.links at.place)) at.passes in
            let same : at.place ≡ p = one_place r.both.box.links at.place p (links_apart (is_under_way i.outbox r.both.box.links) i.outbox s.outbox r.both.box h distinct) at.within within
            (eqb-true (link_in r.both.box.links at.place).conn x.conn parts.0 ∙ eqb-true x.conn l.conn is) in
            absurd (false≢true (sym none ∙ ap (λ q. takes_more (link_in r.both.box.links q)) (sym same) ∙ parts.1))

    none_replied : of_conn p s.replies.waiting ≡ []
    none_replied = by_list (of_conn p s.replies.waiting) refl
      where
        by_list : (xs : List WaitingReply) → of_conn p s.replies.waiting ≡ xs → xs ≡ []
        by_list [] is = refl
        by_list (x ∷ xs) is =
            let some : 1 ≤ count_by (has_log_place x.log_place) (x ∷ xs) = in_counted (has_log_place x.log_place) (x ∷ xs) x (inl refl) (eq-eqb x.log_place x.log_place refl) in
            let same = ap (count_by (has_log_place x.log_place)) is in
            let queued = (a.conns p within).queued.sent x.log_place in
            let empty = ap (count_by (is_sent_at x.log_place)) none_queued in
            absurd (let no : ⊥ = omega (arith, some, same, queued, empty, none_due x.log_place) in no)

    none_noted : of_conn p s.noted.handed ≡ []
    none_noted = no_length (of_conn p s.noted.handed) ((a.conns p within).queued.noting ∙ ap (count_by (λ (out : Outgoing). is_noted out.pdu)) none_queued)

-- ---- what is to be swept, connection by connection

abbrev pub cleared : ℕ → Unswept → Unswept
cleared p u = record { replies = set u.replies p []; noted = set u.noted p [] }

abbrev pub all_cleared : List ℕ → Unswept → Unswept
all_cleared [] u = u
all_cleared (p ∷ ps) u = all_cleared ps (cleared p u)

-- the requests of what waits there
abbrev uses_on : ℕ → Unswept → List (Option ℕ)
uses_on p u = map (λ (x : WaitingReply). Some x.request) (of_conn p u.replies) ++ of_conn p u.noted

abbrev pub all_uses : List ℕ → Unswept → List (Option ℕ)
all_uses [] u = []
all_uses (p ∷ ps) u = uses_on p u ++ all_uses ps (cleared p u)

module _ {X : Type 0} where
  set_nothing : (lists : List (List X)) (p : ℕ) → of_conn p lists ≡ [] → set lists p [] ≡ lists
  set_nothing lists p none = ap (set lists p) (sym none) ∙ set-get_or lists p []

  cleared_at : (lists : List (List X)) (p q : ℕ) → of_conn q lists ≡ [] → of_conn q (set lists p []) ≡ []
  cleared_at [] p q none = refl
  cleared_at (xs ∷ lists) zero zero none = refl
  cleared_at (xs ∷ lists) zero (suc q) none = none
  cleared_at (xs ∷ lists) (suc p) zero none = none
  cleared_at (xs ∷ lists) (suc p) (suc q) none = cleared_at lists p q none

  cleared_here : (lists : List (List X)) (p : ℕ) → of_conn p (set lists p []) ≡ []
  cleared_here [] p = refl
  cleared_here (xs ∷ lists) zero = refl
  cleared_here (xs ∷ lists) (suc p) = cleared_here lists p

  cleared_count : (t : X → Bool) (lists : List (List X)) (p : ℕ) → count_lists t (set lists p []) + count_by t (of_conn p lists) ≡ count_lists t lists
  cleared_count t [] p = refl
  cleared_count t (xs ∷ lists) zero = omega arith
  cleared_count t (xs ∷ lists) (suc p) = let rest = cleared_count t lists p in omega (arith, rest)

  cleared_all : (lists : List (List X)) (p : ℕ) → count_all (set lists p []) + length (of_conn p lists) ≡ count_all lists
  cleared_all [] p = refl
  cleared_all (xs ∷ lists) zero = omega arith
  cleared_all (xs ∷ lists) (suc p) = let rest = cleared_all lists p in omega (arith, rest)

  no_count : (t : X → Bool) (lists : List (List X)) → ((p : ℕ) → of_conn p lists ≡ []) → count_lists t lists ≡ 0
  no_count t [] none = refl
  no_count t (xs ∷ lists) none = let here = ap (count_by t) (none 0) in let rest = no_count t lists (λ p. none (suc p)) in omega (arith, here, rest)

-- behind all of these nothing is left where nothing was, or on one of them
pub all_gone : (ps : List ℕ) (u : Unswept) (q : ℕ) → ((of_conn q u.replies ≡ []) × (of_conn q u.noted ≡ [])) ⊎ In q ps → (of_conn q (all_cleared ps u).replies ≡ []) × (of_conn q (all_cleared ps u).noted ≡ [])
all_gone [] u q either = ⊎_elim (λ none. none) (λ there. absurd there) either
all_gone (p ∷ ps) u q either =
    all_gone ps (cleared p u) q
    (⊎_elim (λ none. inl (cleared_at u.replies p q none.0, cleared_at u.noted p q none.1))
    (λ there. ⊎_elim (λ (here : p ≡ q). inl (ap (λ k. of_conn k (set u.replies p [])) (sym here) ∙ cleared_here u.replies p, ap (λ k. of_conn k (set u.noted p [])) (sym here) ∙ cleared_here u.noted p)) (λ later. inr later) there) either)

-- the uses that end by it
pub uses_end : (ps : List ℕ) (u : Unswept) (place : ℕ) → endings (all_uses ps u) place + unswept_at (all_cleared ps u) place ≡ unswept_at u place
uses_end [] u place = omega arith
uses_end (p ∷ ps) u place =
    let rest = uses_end ps (cleared p u) place in
    omega (
      arith,
      rest,
      endings_append (uses_on p u) (all_uses ps (cleared p u)) place,
      endings_append (map (λ (x : WaitingReply). Some x.request) (of_conn p u.replies)) (of_conn p u.noted) place,
      endings_replies (of_conn p u.replies) place,
      endings_places (of_conn p u.noted) place,
      cleared_count (λ (x : WaitingReply). x.request == place) u.replies p,
      cleared_count (is_place place) u.noted p,
    )

pub none_left : (u : Unswept) → ((p : ℕ) → (of_conn p u.replies ≡ []) × (of_conn p u.noted ≡ [])) → (place : ℕ) → unswept_at u place ≡ 0
none_left u none place = let a = no_count (λ (x : WaitingReply). x.request == place) u.replies (λ p. (none p).0) in let b = no_count (is_place place) u.noted (λ p. (none p).1) in omega (arith, a, b)

pub few_uses : (ps : List ℕ) (u : Unswept) → length (all_uses ps u) ≤ count_all u.replies + count_all u.noted
few_uses [] u = omega arith
few_uses (p ∷ ps) u =
    let rest = few_uses ps (cleared p u) in
    omega (
      arith,
      rest,
      length-append (uses_on p u) (all_uses ps (cleared p u)),
      length-append (map (λ (x : WaitingReply). Some x.request) (of_conn p u.replies)) (of_conn p u.noted),
      length-map (of_conn p u.replies) (λ (x : WaitingReply). Some x.request),
      cleared_all u.replies p,
      cleared_all u.noted p,
    )

released_aside : (xs : List (Option ℕ)) (replies : WaitingReplies) (noted : Unwritten) (d : Doing) → releases xs (set_waiting replies noted d) ≡ set_waiting replies noted (releases xs d)
released_aside [] replies noted d = refl
released_aside (x ∷ xs) replies noted d = ap (releases xs) (release_aside replies noted x d) ∙ released_aside xs replies noted (release_if x d)

released_outbox : (xs : List (Option ℕ)) (d : Doing) → (releases xs d).state.outbox ≡ d.state.outbox
released_outbox [] d = refl
released_outbox (x ∷ xs) d = released_outbox xs (release_if x d) ∙ release_outbox x d

-- ---- what is swept

module _ (i : Interface) (names : List Name) (notes : List Note) (pending : ℕ → ℕ) (gone : ℕ → List (Option ℕ)) (s : State) (r : Side) (a : AreRequests names notes pending gone s r) (h : OutboxStands i.outbox s.outbox r.both.box) (sizes : AreSizes i s)
    (sound : IsSound i.outbox r.both.box) (emptied : EachOf (λ (l : Link). l.cut ≡ true → l.queue ≡ []) r.both.box.links) (distinct : are_distinct i.outbox.session.conns ≡ true) where
  -- so it is to be swept: connection by connection, and where nothing goes out any more
  record IsFor (u : Unswept) : Type 0 where
    long_replies : length u.replies ≡ length (cids i)
    long_noted : length u.noted ≡ length (cids i)
    clear : (p : ℕ) → p < length r.both.box.links → takes_more (link_in r.both.box.links p) ≡ true → (of_conn p u.replies ≡ []) × (of_conn p u.noted ≡ [])

  abbrev pub put_on : Unswept → Doing → Doing
  put_on u d = set_waiting (with_replies u s.replies) (with_noted u s.noted) d

  nothing_there : (p : ℕ) (u : Unswept) (d : Doing) → of_conn p u.replies ≡ [] → of_conn p u.noted ≡ [] → put_on u d ≡ releases (uses_on p u) (put_on (cleared p u) d)
  nothing_there p u d none none' =
      sym (ap (λ (rs : List WaitingReply). releases (map (λ (x : WaitingReply). Some x.request) rs ++ of_conn p u.noted) (put_on (cleared p u) d)) none ∙ ap (λ (xs : List (Option ℕ)). releases xs (put_on (cleared p u) d)) none'
      ∙ ap (λ (ls : List (List WaitingReply)). put_on (record { replies = ls; noted = set u.noted p [] }) d) (set_nothing u.replies p none)
      ∙ ap (λ (ls : List (List (Option ℕ))). put_on (record { replies = u.replies; noted = ls }) d) (set_nothing u.noted p none'))

  dropped_there : (p : ℕ) (u : Unswept) (d : Doing) → IsFor u → p < length r.both.box.links → takes_more (link_in r.both.box.links p) ≡ false → drop_waiting p (put_on u d) ≡ releases (uses_on p u) (put_on (cleared p u) d)
  dropped_there p u d f within none =
      let many = as_many_links i s r h in
      let long : length u.replies ≡ length s.replies.waiting = (let z = sizes.replies in let y = f.long_replies in y ∙ sym z) in
      let long' : length u.noted ≡ length s.noted.handed = (let z = sizes.noted in let y = f.long_noted in y ∙ sym z) in
      let in_replies : p < length (joined s.replies.waiting u.replies) = (let z = sizes.replies in omega (arith, within, many, z, joined_long s.replies.waiting u.replies)) in
      let in_noted : p < length (joined s.noted.handed u.noted) = (let z = sizes.noted in omega (arith, within, many, z, joined_long s.noted.handed u.noted)) in
      let first = none_replied i names notes pending gone s r a h sizes sound emptied distinct p within none in
      let second = none_noted i names notes pending gone s r a h sizes sound emptied distinct p within none in
      waiting_dropped p (put_on u d) in_replies in_noted
      ∙ ap (λ (rs : List WaitingReply). releases (map (λ (x : WaitingReply). Some x.request) rs ++ of_conn p (joined s.noted.handed u.noted)) after) (joined_at s.replies.waiting u.replies p long ∙ ap (λ (xs : List WaitingReply). xs ++ of_conn p u.replies) first)
      ∙ ap (λ (xs : List (Option ℕ)). releases (map (λ (x : WaitingReply). Some x.request) (of_conn p u.replies) ++ xs) after) (joined_at s.noted.handed u.noted p long' ∙ ap (λ (xs : List (Option ℕ)). xs ++ of_conn p u.noted) second)
      ∙ ap (λ (ls : List (List WaitingReply)). releases (uses_on p u) (set_waiting (record s.replies { waiting = ls }) (record s.noted { handed = set (joined s.noted.handed u.noted) p [] }) d)) (joined_cleared s.replies.waiting u.replies p long first)
      ∙ ap (λ (ls : List (List (Option ℕ))). releases (uses_on p u) (set_waiting (with_replies (cleared p u) s.replies) (record s.noted { handed = ls }) d)) (joined_cleared s.noted.handed u.noted p long' second)
    where
      after : Doing
      after = set_waiting (record s.replies { waiting = set (joined s.replies.waiting u.replies) p [] }) (record s.noted { handed = set (joined s.noted.handed u.noted) p [] }) d

  not_dropped : (p : ℕ) (u : Unswept) (d : Doing) → IsFor u → length r.both.box.links ≤ p → drop_waiting p (put_on u d) ≡ put_on u d
  not_dropped p u d f beyond =
      let many = as_many_links i s r h in
      let none : of_conn p (joined s.replies.waiting u.replies) ≡ [] = none_beyond (joined s.replies.waiting u.replies) p (let z = sizes.replies in omega (arith, beyond, many, z, joined_long s.replies.waiting u.replies)) in
      let none' : of_conn p (joined s.noted.handed u.noted) ≡ [] = none_beyond (joined s.noted.handed u.noted) p (let z = sizes.noted in omega (arith, beyond, many, z, joined_long s.noted.handed u.noted)) in
      ap (λ (xs : List WaitingReply). let d' = drop_replies (length xs) p (put_on u d) in drop_noted (length (of_conn p d'.state.noted.handed)) p d') none ∙ ap (λ (xs : List (Option ℕ)). drop_noted (length xs) p (put_on u d)) none'

  -- where something goes out still, it keeps it
  keeps_it : (o : OutboxState) → o ≡ s.outbox → (p : ℕ) → p < length r.both.box.links → keeps (link_at o p) ≡ takes_more (link_in r.both.box.links p)
  keeps_it o same p within =
      let st : StandsFor (link_at s.outbox p) (link_in r.both.box.links p) = counts_at (is_under_way i.outbox r.both.box.links) i.outbox s.outbox r.both.box h p within in
      ap (λ (x : OutboxState). keeps (link_at x p)) same
      ∙ ap (λ v. (v && not (link_at s.outbox p).lost) && not (link_at s.outbox p).cut) st.joined
      ∙ ap (λ v. ((link_in r.both.box.links p).joined && not v) && not (link_at s.outbox p).cut) st.lost
      ∙ ap (λ v. ((link_in r.both.box.links p).joined && not (link_in r.both.box.links p).lost) && not v) st.cut

  one_swept : (p : ℕ) (u : Unswept) (d : Doing) → IsFor u → d.state.outbox ≡ s.outbox → (v : Bool) → keeps (link_at d.state.outbox p) ≡ v → cond v (put_on u d) (drop_waiting p (put_on u d)) ≡ releases (uses_on p u) (put_on (cleared p u) d)
  one_swept p u d f same v is = ⊎_elim (λ within. inside within v is) (λ beyond. outside beyond v) (cases_lt p (length r.both.box.links))
    where
      inside : p < length r.both.box.links → (w : Bool) → keeps (link_at d.state.outbox p) ≡ w → cond w (put_on u d) (drop_waiting p (put_on u d)) ≡ releases (uses_on p u) (put_on (cleared p u) d)
      inside within true is' = let none = f.clear p within (sym (keeps_it d.state.outbox same p within) ∙ is') in nothing_there p u d none.0 none.1
      inside within false is' = dropped_there p u d f within (sym (keeps_it d.state.outbox same p within) ∙ is')

      outside : length r.both.box.links ≤ p → (w : Bool) → cond w (put_on u d) (drop_waiting p (put_on u d)) ≡ releases (uses_on p u) (put_on (cleared p u) d)
      outside beyond w =
          let many = as_many_links i s r h in
          let long = f.long_replies in
          let long' = f.long_noted in
          let none : of_conn p u.replies ≡ [] = none_beyond u.replies p (omega (arith, beyond, many, long)) in
          let none' : of_conn p u.noted ≡ [] = none_beyond u.noted p (omega (arith, beyond, many, long')) in
          by_keeps w ∙ nothing_there p u d none none'
        where
          by_keeps : (x : Bool) → cond x (put_on u d) (drop_waiting p (put_on u d)) ≡ put_on u d
          by_keeps true = refl
          by_keeps false = not_dropped p u d f beyond

  cleared_for : (p : ℕ) (u : Unswept) → IsFor u → IsFor (cleared p u)
  cleared_for p u f = record {
    long_replies = length-set u.replies p [] ∙ f.long_replies;
    long_noted = length-set u.noted p [] ∙ f.long_noted;
    clear = λ q within takes. let none = f.clear q within takes in (cleared_at u.replies p q none.0, cleared_at u.noted p q none.1);
  }

  all_swept : (ps : List ℕ) (u : Unswept) (d : Doing) → IsFor u → d.state.outbox ≡ s.outbox → sweep ps (put_on u d) ≡ releases (all_uses ps u) (put_on (all_cleared ps u) d)
  all_swept [] u d f same = refl
  all_swept (p ∷ ps) u d f same =
      ap (sweep ps) (one_swept p u d f same (keeps (link_at d.state.outbox p)) refl ∙ released_aside (uses_on p u) (with_replies (cleared p u) s.replies) (with_noted (cleared p u) s.noted) d)
      ∙ all_swept ps (cleared p u) (releases (uses_on p u) d) (cleared_for p u f) (released_outbox (uses_on p u) d ∙ same)
      ∙ ap (releases (all_uses ps (cleared p u))) (sym (released_aside (uses_on p u) (with_replies (all_cleared ps (cleared p u)) s.replies) (with_noted (all_cleared ps (cleared p u)) s.noted) d))
      ∙ sym (releases_append (uses_on p u) (all_uses ps (cleared p u)) (put_on (all_cleared ps (cleared p u)) d))

  -- .. where all is on one of these
  pub swept : (ps : List ℕ) (u : Unswept) (d : Doing) → length u.replies ≡ length (cids i) → length u.noted ≡ length (cids i)
      → ((p : ℕ) → p < length r.both.box.links → takes_more (link_in r.both.box.links p) ≡ true → (of_conn p u.replies ≡ []) × (of_conn p u.noted ≡ []))
      → ((p : ℕ) → ((of_conn p u.replies ≡ []) × (of_conn p u.noted ≡ [])) ⊎ In p ps) → d.state.outbox ≡ s.outbox → sweep ps (put_on u d) ≡ releases (all_uses ps u) (set_waiting s.replies s.noted d)
  swept ps u d long long' clear each same =
      all_swept ps u d (record { long_replies = long; long_noted = long'; clear = clear }) same
      ∙ ap (λ (ls : List (List WaitingReply)). releases (all_uses ps u) (set_waiting (record s.replies { waiting = ls }) (with_noted (all_cleared ps u) s.noted) d)) (joined_nothing s.replies.waiting (all_cleared ps u).replies (λ p. (all_gone ps u p (each p)).0))
      ∙ ap (λ (ls : List (List (Option ℕ))). releases (all_uses ps u) (set_waiting s.replies (record s.noted { handed = ls }) d)) (joined_nothing s.noted.handed (all_cleared ps u).noted (λ p. (all_gone ps u p (each p)).1))
