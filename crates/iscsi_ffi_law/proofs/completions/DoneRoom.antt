-- No more replies are kept than wait in the outbox, so there is room for one more.
use Rattle.std.proofs.Common.{◌≡◌, ℕ, zero, suc, ◌+◌, ◌-◌, ◌^◌, ◌<◌, ◌≤◌, ◌==◌, ◌&&◌, ⊎_elim, nat_lt, cond, Bool, true, List, [], ◌∷◌, ◌++◌, length, map, count_by, Option, Some, None, is_some, refl, ap, ◌∙◌, arith, lt-ltb, length-append, ◌*◌}
use Rattle.std.specs.Prelude.{sum_by}
use Rattle.std.proofs.lemmas.Bool.{cases_lt}
use Rattle.std.proofs.lemmas.List.{length-map}
use Rattle.std.proofs.lemmas.List.Sums.{sum_by-append}
use Rattle.iscsi_rules.proofs.general.BoolLemmas.{and_parts}
use Rattle.iscsi_rules.proofs.general.CountLemmas.{count-weaker}
use Rattle.iscsi_outbox_rules.specs.promises.Room.{places}
use Rattle.iscsi_outbox_rules.specs.rules.Boxes.{Answer, Link, Outgoing}
use Rattle.iscsi_outbox_rules.specs.rules.Words.{is_reply, replies_waiting}
use Rattle.iscsi_outbox_law.specs.private.Commands.{link_in}
use Rattle.iscsi_outbox_law.specs.private.Stands.{Stands as OutboxStands}
use Rattle.iscsi_requests.specs.Conns.{count_all, of_conn}
use Rattle.iscsi_requests.specs.Replies.{all_of, has_log_place}
use Rattle.iscsi_requests.specs.declared.replies.WaitingReply.{WaitingReply}
use Rattle.iscsi_ffi_rules.specs.rules.Calls.{Interface}
use Rattle.iscsi_ffi_rules.specs.rules.Sides.{Side}
use Rattle.iscsi_ffi_steps.specs.State.{State}
use Rattle.iscsi_ffi_steps.specs.Walk.{may_wait}
use Rattle.iscsi_ffi_law.specs.Names.{Name, Note}
use Rattle.iscsi_ffi_law.specs.Parts.{IsBefore, IsKnownOut, IsUndue, is_sent_at}
use Rattle.iscsi_ffi_law.specs.Stands.{AreRequests, AreSizes}
use Rattle.iscsi_ffi_law.specs.Uses.{count_lists, is_place}
use Rattle.iscsi_ffi_law.proofs.calls.Finish.{as_many_links}
use Rattle.iscsi_ffi_law.proofs.calls.Fitting.{count_inside, noted_own, count_map, fewer, sent_place, sent_reply}
use Rattle.iscsi_outbox_law.specs.private.Sound.{IsLinkSound, IsSound}
use Rattle.iscsi_outbox_law.proofs.general.PairLemmas.{each-at}
use Rattle.iscsi_outbox_rules.specs.rules.Own.{is_own}
use Rattle.iscsi_outbox_rules.specs.rules.Run.{new_link}
use Rattle.iscsi_ffi_rules.specs.rules.Needs.{is_noted}
use Rattle.iscsi_ffi_rules.specs.rules.Run.{cids}
use Rattle.iscsi_ffi_law.proofs.general.Members.{CountedAt, lists_counted}

all_counted : (p : WaitingReply → Bool) (lists : List (List WaitingReply)) → count_by p (all_of lists) ≡ count_lists p lists
all_counted p [] = refl
all_counted p (xs ∷ lists) = omega (arith, sum_by-append (λ (x : WaitingReply). cond (p x) 1 0) xs (all_of lists), all_counted p lists)

all_long : (lists : List (List WaitingReply)) → length (all_of lists) ≡ count_all lists
all_long [] = refl
all_long (xs ∷ lists) = omega (arith, length-append xs (all_of lists), all_long lists)

-- the places in the log of what waits
abbrev sent_in : Link → List (Option ℕ)
sent_in l = map (λ (out : Outgoing). out.sent) l.queue

abbrev all_sent : List Link → List (Option ℕ)
all_sent [] = []
all_sent (l ∷ links) = sent_in l ++ all_sent links

sent_there : (p : Option ℕ → Bool) (links : List Link) (q : ℕ) → q < length links → count_by p (sent_in (link_in links q)) ≤ count_by p (all_sent links)
sent_there p [] q within = absurd (let none : ⊥ = omega (arith, within) in none)
sent_there p (l ∷ links) zero within = let here : count_by p (sent_in (link_in (l ∷ links) 0)) ≡ count_by p (sent_in l) = refl in omega (arith, here, sum_by-append (λ (x : Option ℕ). cond (p x) 1 0) (sent_in l) (all_sent links))
sent_there p (l ∷ links) (suc q) within =
    let rest = sent_there p links q (omega (arith, within)) in
    let here : count_by p (sent_in (link_in (l ∷ links) (suc q))) ≡ count_by p (sent_in (link_in links q)) = refl in
    omega (arith, rest, here, sum_by-append (λ (x : Option ℕ). cond (p x) 1 0) (sent_in l) (all_sent links))

module _ (i : Interface) (names : List Name) (notes : List Note) (pending : ℕ → ℕ) (gone : ℕ → List (Option ℕ)) (s : State) (r : Side) (a : AreRequests names notes pending gone s r) (h : OutboxStands i.outbox s.outbox r.both.box) (z : AreSizes i s) where
  abbrev undue : List (Option ℕ)
  undue = map (λ (x : Answer). x.out.sent) r.both.box.undue

  found : (k : ℕ) → count_by (has_log_place k) (all_of s.replies.waiting) ≤ count_by (is_place k) (all_sent r.both.box.links ++ undue)
  found k =
      ⊎_elim
      (λ some.
      let at : CountedAt (has_log_place k) s.replies.waiting = lists_counted (has_log_place k) s.replies.waiting (omega (arith, some)) in
      let short : at.place < length r.both.box.links = omega (arith, at.within, z.replies, as_many_links i s r h) in
      let here = count-weaker (is_sent_at k) (λ (out : Outgoing). is_place k out.sent) (link_in r.both.box.links at.place).queue (sent_place k) in
      let later = count-weaker (λ (x : Answer). x.conn == (link_in r.both.box.links at.place).conn && is_sent_at k x.out) (λ (x : Answer). is_place k x.out.sent) r.both.box.undue
      (λ x e. sent_place k x.out (and_parts (x.conn == (link_in r.both.box.links at.place).conn) (is_sent_at k x.out) e).1) in
      let there = sent_there (is_place k) r.both.box.links at.place short in
      omega (
        arith,
        all_counted (has_log_place k) s.replies.waiting,
        a.once k,
        at.some,
        (a.conns at.place short).queued.sent k,
        here,
        later,
        there,
        count_map (λ (out : Outgoing). out.sent) (is_place k) (link_in r.both.box.links at.place).queue,
        count_map (λ (x : Answer). x.out.sent) (is_place k) r.both.box.undue,
        sum_by-append (λ (x : Option ℕ). cond (is_place k x) 1 0) (all_sent r.both.box.links) undue,
      ))
      (λ none. omega (arith, none, all_counted (has_log_place k) s.replies.waiting))
      (cases_lt 0 (count_lists (has_log_place k) s.replies.waiting))

  replies_of : (links : List Link) (known : (q : ℕ) → q < length links → count_by (λ (out : Outgoing). is_some out.sent) (link_in links q).queue ≤ count_by (λ (out : Outgoing). is_reply out.pdu) (link_in links q).queue)
      → count_by is_some (all_sent links) ≤ sum_by (λ (l : Link). count_by (λ (out : Outgoing). is_reply out.pdu) l.queue) links
  replies_of [] known = omega arith
  replies_of (l ∷ links) known =
      let first : count_by (λ (out : Outgoing). is_some out.sent) l.queue ≤ count_by (λ (out : Outgoing). is_reply out.pdu) l.queue = known 0 (omega arith) in
      let rest = replies_of links (λ q within. known (suc q) (omega (arith, within))) in
      let all : sum_by (λ (m : Link). count_by (λ (out : Outgoing). is_reply out.pdu) m.queue) (l ∷ links) ≡ 0 + count_by (λ (out : Outgoing). is_reply out.pdu) l.queue + sum_by (λ (m : Link). count_by (λ (out : Outgoing). is_reply out.pdu) m.queue) links
      = sum_by-append (λ (m : Link). count_by (λ (out : Outgoing). is_reply out.pdu) m.queue) (l ∷ []) links in
      omega (arith, first, rest, all, sum_by-append (λ (x : Option ℕ). cond (is_some x) 1 0) (sent_in l) (all_sent links), count_map (λ (out : Outgoing). out.sent) is_some l.queue)

  pub all_few : count_all s.replies.waiting ≤ replies_waiting r.both.box
  all_few =
      let all : length (all_of s.replies.waiting) ≤ count_by is_some (all_sent r.both.box.links ++ undue) = fewer (all_sent r.both.box.links ++ undue) (all_of s.replies.waiting) (λ k. omega (arith, all_counted (has_log_place k) s.replies.waiting, a.once k)) found in
      let here = replies_of r.both.box.links (λ q short. count_inside (IsKnownOut names r.both.trace r.answers) (λ (out : Outgoing). is_some out.sent) (λ (out : Outgoing). is_reply out.pdu) (link_in r.both.box.links q).queue (a.conns q short).queued.known
      (λ out k some. sent_reply out.pdu out.ticket out.sent k.own some)) in
      let later = count_inside (IsUndue names r.answers) (λ (x : Answer). is_some x.out.sent) (λ (x : Answer). is_reply x.out.pdu) r.both.box.undue a.undue (λ x k some. k.reply) in
      omega (arith, all, all_long s.replies.waiting, here, later, sum_by-append (λ (x : Option ℕ). cond (is_some x) 1 0) (all_sent r.both.box.links) undue, count_map (λ (x : Answer). x.out.sent) is_some r.both.box.undue)

  -- own PDUs that are of no command
  pub noted_few : IsSound i.outbox r.both.box → count_all s.noted.handed ≤ i.outbox.own * length (cids i)
  noted_few sound = (let long = z.noted in let few = each_few s.noted.handed (λ p short. one_few p (let many = as_many_links i s r h in omega (arith, short, long, many))) in let same = ap (λ n. i.outbox.own * n) long in omega (arith, few, same))
    where
      one_few : (p : ℕ) → p < length r.both.box.links → length (of_conn p s.noted.handed) ≤ i.outbox.own
      one_few p short =
          let its : IsLinkSound i.outbox r.both.box.tasks (link_in r.both.box.links p) = each-at (IsLinkSound i.outbox r.both.box.tasks) r.both.box.links p (new_link 0) short sound.links in
          let owned = count-weaker (λ (o : Outgoing). is_noted o.pdu) (λ (o : Outgoing). is_own o.pdu) (link_in r.both.box.links p).queue (λ o noted. noted_own o.pdu noted) in
          omega (arith, owned, (a.conns p short).queued.noting, its.own)

      each_few : (lists : List (List (Option ℕ))) → ((p : ℕ) → p < length lists → length (of_conn p lists) ≤ i.outbox.own) → count_all lists ≤ i.outbox.own * length lists
      each_few [] few = omega arith
      each_few (xs ∷ lists) few =
          let first = few 0 (omega arith) in
          let rest = each_few lists (λ p short. few (suc p) (omega (arith, short))) in
          let product : i.outbox.own * suc (length lists) ≡ i.outbox.own + i.outbox.own * length lists = one_more i.outbox.own (length lists) in
          omega (arith, first, rest, product)
        where
          one_more : (m n : ℕ) → m * suc n ≡ m + m * n
          one_more m n = grind arith

  -- ---- one more

  three : (u v w : Bool) → u ≡ true → v ≡ true → w ≡ true → (u && v && w) ≡ true
  three u v w e f g = ap (λ x. x && v && w) e ∙ ap (λ x. true && x && w) f ∙ ap (λ x. true && true && x) g

  before_it : (x : Option ℕ) → IsBefore (length r.answers) x → elim x [ Some last ↦ nat_lt last r.both.box.sent | None ↦ true ] ≡ true
  before_it None k = refl
  before_it (Some last) k = lt-ltb last r.both.box.sent (let same = a.answers in omega (arith, k, same))

  pub may_wait_more : r.both.box.sent < 2 ^ 64 - 1 → replies_waiting r.both.box < places i.outbox → may_wait r.both.box.sent s.replies ≡ true
  may_wait_more short room =
      let conns = length-map i.outbox.session.conns (λ (c : ℕ × ℕ). c.0) in
      three (nat_lt (count_all s.replies.waiting) s.replies.room) (nat_lt (r.both.box.sent + 1) (2 ^ 64)) (elim (s.replies.last) [ Some last ↦ nat_lt last r.both.box.sent | None ↦ true ])
      (lt-ltb (count_all s.replies.waiting) s.replies.room (omega (arith, all_few, z.replies_room, room, conns)))
      (lt-ltb (r.both.box.sent + 1) (2 ^ 64) (omega (arith, short)))
      (before_it s.replies.last a.last)
