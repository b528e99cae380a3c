-- There is room to tell of all that a connection has: its replies wait in the outbox, which has few of them.
use Rattle.std.proofs.Common.{◌≡◌, ℕ, zero, suc, ◌+◌, ◌*◌, ◌<◌, ◌≤◌, ◌==◌, ◌&&◌, ⊎_elim, not, cond, Bool, true, false, List, [], ◌∷◌, ◌++◌, length, map, count_by, filter, Option, Some, None, is_some, refl, ap, sym, ◌∙◌, arith, mul-suc}
use Rattle.std.specs.Prelude.{sum_by}
use Rattle.std.proofs.lemmas.Bool.{false≢true, eq-eqb, eqb-true, cases_lt}
use Rattle.std.proofs.lemmas.List.{length-map}
use Rattle.std.proofs.lemmas.List.Sums.{sum_by-append}
use Rattle.iscsi_rules.proofs.general.BoolLemmas.{and_parts}
use Rattle.iscsi_rules.proofs.general.CountLemmas.{one, count-cons, count-filter, count-weaker}
use Rattle.iscsi_outbox_rules.specs.rules.Boxes.{Answer, Box, Link, Outgoing, Pdu, Replies, Owns, Pings, Notices}
use Rattle.iscsi_outbox_rules.specs.rules.Own.{is_own}
use Rattle.iscsi_outbox_rules.specs.rules.Run.{new_link}
use Rattle.iscsi_outbox_rules.specs.rules.Words.{is_reply, replies_waiting}
use Rattle.iscsi_outbox_law.specs.private.Commands.{link_in}
use Rattle.iscsi_outbox_law.specs.private.Pairs.{EachOf}
use Rattle.iscsi_outbox_law.specs.private.Sound.{IsLinkSound}
use Rattle.iscsi_outbox_law.proofs.general.PairLemmas.{each-at}
use Rattle.iscsi_requests.specs.Conns.{of_conn}
use Rattle.iscsi_requests.specs.Replies.{has_log_place}
use Rattle.iscsi_requests.specs.declared.replies.WaitingReply.{WaitingReply}
use Rattle.iscsi_ffi_rules.specs.rules.Calls.{Interface}
use Rattle.iscsi_ffi_rules.specs.rules.Needs.{is_noted}
use Rattle.iscsi_ffi_rules.specs.rules.Run.{cids}
use Rattle.iscsi_ffi_rules.specs.rules.Sides.{Side}
use Rattle.iscsi_ffi_steps.specs.State.{State}
use Rattle.iscsi_ffi_steps.specs.Steps.{Side as StepsSide}
use Rattle.iscsi_ffi_law.specs.Fit.{IsFit}
use Rattle.iscsi_ffi_law.specs.Parts.{IsKnownOut, IsOwnOut, IsUndue, is_sent_at}
use Rattle.iscsi_ffi_law.specs.Stands.{Stands}
use Rattle.iscsi_ffi_law.specs.Uses.{is_place}
use Rattle.iscsi_ffi_law.proofs.calls.Finish.{as_many_links}
use Rattle.iscsi_ffi_law.proofs.requests.Kept.{count_nothing}
use Rattle.iscsi_ffi_law.proofs.general.Lists.{lists_at}

-- ---- lists

parted : {A : Type 0} (q : A → Bool) (xs : List A) → length xs ≡ length (filter (λ x. not (q x)) xs) + count_by q xs
parted q [] = refl
parted q (x ∷ xs) = by_first (q x) refl (parted q xs)
  where
    by_first : (v : Bool) → q x ≡ v → length xs ≡ length (filter (λ y. not (q y)) xs) + count_by q xs → length (x ∷ xs) ≡ length (filter (λ y. not (q y)) (x ∷ xs)) + count_by q (x ∷ xs)
    by_first true is rest =
        let here : one (q x) ≡ 1 = ap one is in
        let left : filter (λ y. not (q y)) (x ∷ xs) ≡ filter (λ y. not (q y)) xs = ap (λ v. cond (not v) (x ∷ filter (λ y. not (q y)) xs) (filter (λ y. not (q y)) xs)) is in
        let long = ap length left in
        omega (arith, rest, here, long, count-cons q x xs)
    by_first false is rest =
        let here : one (q x) ≡ 0 = ap one is in
        let left : filter (λ y. not (q y)) (x ∷ xs) ≡ x ∷ filter (λ y. not (q y)) xs = ap (λ v. cond (not v) (x ∷ filter (λ y. not (q y)) xs) (filter (λ y. not (q y)) xs)) is in
        let long = ap length left in
        omega (arith, rest, here, long, count-cons q x xs)

-- replies with places of their own, each of which stands among these
pub fewer : (ys : List (Option ℕ)) (xs : List WaitingReply) → ((p : ℕ) → count_by (has_log_place p) xs ≤ 1) → ((p : ℕ) → count_by (has_log_place p) xs ≤ count_by (is_place p) ys) → length xs ≤ count_by is_some ys
fewer [] [] apart found = omega arith
fewer [] (x ∷ xs) apart found =
    absurd (let all = count-cons (has_log_place x.log_place) x xs in let here : one (x.log_place == x.log_place) ≡ 1 = ap one (eq-eqb x.log_place x.log_place refl) in let none = found x.log_place in let wrong : ⊥ = omega (arith, all, here, none) in wrong)
fewer (None ∷ ys) xs apart found =
    let rest = fewer ys xs apart (λ p. omega (arith, found p, count-cons (is_place p) None ys)) in
    omega (arith, rest, count-cons is_some None ys)
fewer (Some q ∷ ys) xs apart found =
    let rest = fewer ys (filter (λ x. not (has_log_place q x)) xs) (λ p. omega (arith, less p, apart p)) (λ p. by_place p (q == p) refl) in
    omega (arith, rest, parted (has_log_place q) xs, apart q, count-cons is_some (Some q) ys)
  where
    less : (p : ℕ) → count_by (has_log_place p) (filter (λ x. not (has_log_place q x)) xs) ≤ count_by (has_log_place p) xs
    less p =
        omega (arith, count-filter (has_log_place p) (λ x. not (has_log_place q x)) xs, count-weaker (λ x. not (has_log_place q x) && has_log_place p x) (has_log_place p) xs (λ x k. (and_parts (not (has_log_place q x)) (has_log_place p x) k).1))

    never : (v : Bool) → (not v && v) ≡ false
    never true = refl
    never false = refl

    by_place : (p : ℕ) (v : Bool) → (q == p) ≡ v → count_by (has_log_place p) (filter (λ x. not (has_log_place q x)) xs) ≤ count_by (is_place p) ys
    by_place p true same =
        let none : count_by (λ x. not (has_log_place q x) && has_log_place p x) xs ≡ 0
        = count_nothing (λ x. not (has_log_place q x) && has_log_place p x) xs (λ x there. ap (λ k. not (has_log_place q x) && has_log_place k x) (sym (eqb-true q p same)) ∙ never (has_log_place q x)) in
        omega (arith, none, count-filter (has_log_place p) (λ x. not (has_log_place q x)) xs)
    by_place p false other =
        let here : one (is_place p (Some q)) ≡ 0 = ap one other in
        omega (arith, here, less p, found p, count-cons (is_place p) (Some q) ys)

pub count_map : {A B : Type 0} (f : A → B) (p : B → Bool) (xs : List A) → count_by p (map f xs) ≡ count_by (λ x. p (f x)) xs
count_map f p [] = refl
count_map f p (x ∷ xs) = omega (arith, count_map f p xs, count-cons p (f x) (map f xs), count-cons (λ y. p (f y)) x xs)

-- what is passed in by those that it holds of
pub count_inside : {A : Type 0} (P : A → Type 0) (p q : A → Bool) (xs : List A) → EachOf P xs → ((x : A) → P x → p x ≡ true → q x ≡ true) → count_by p xs ≤ count_by q xs
count_inside P p q [] each f = omega arith
count_inside P p q (x ∷ xs) each f = by_first (count_inside P p q xs each.1 f) (p x) refl
  where
    by_first : count_by p xs ≤ count_by q xs → (v : Bool) → p x ≡ v → count_by p (x ∷ xs) ≤ count_by q (x ∷ xs)
    by_first rest true is = let here : one (p x) ≡ 1 = ap one is in let there : one (q x) ≡ 1 = ap one (f x each.0 is) in omega (arith, rest, here, there, count-cons p x xs, count-cons q x xs)
    by_first rest false is = let here : one (p x) ≡ 0 = ap one is in omega (arith, rest, here, count-cons p x xs, count-cons q x xs)

sum_at : (f : Link → ℕ) (links : List Link) (p : ℕ) → p < length links → f (link_in links p) ≤ sum_by f links
sum_at f [] p lt = absurd (let wrong : ⊥ = omega (arith, lt) in wrong)
sum_at f (l ∷ links) zero lt = let all : sum_by f (l ∷ links) ≡ 0 + f l + sum_by f links = sum_by-append f (l ∷ []) links in let here : f (link_in (l ∷ links) 0) ≡ f l = refl in omega (arith, all, here)
sum_at f (l ∷ links) (suc p) lt =
    let rest : f (link_in links p) ≤ sum_by f links = sum_at f links p (omega (arith, lt)) in
    let all : sum_by f (l ∷ links) ≡ 0 + f l + sum_by f links = sum_by-append f (l ∷ []) links in
    let here : f (link_in (l ∷ links) (suc p)) ≡ f (link_in links p) = refl in
    omega (arith, rest, all, here)

nothing_beyond : {X : Type 0} (lists : List (List X)) (p : ℕ) → length lists ≤ p → of_conn p lists ≡ []
nothing_beyond [] zero beyond = refl
nothing_beyond [] (suc p) beyond = refl
nothing_beyond (xs ∷ lists) zero beyond = absurd (let wrong : ⊥ = omega (arith, beyond) in wrong)
nothing_beyond (xs ∷ lists) (suc p) beyond = nothing_beyond lists p (omega (arith, beyond))

pub each_below : {A : Type 0} (m : ℕ) (lists : List (List A)) (p : ℕ) → EachOf (λ (xs : List A). length xs ≤ m) lists → length (of_conn p lists) ≤ m
each_below m [] zero each = omega arith
each_below m [] (suc p) each = omega arith
each_below m (xs ∷ lists) zero each = each.0
each_below m (xs ∷ lists) (suc p) each = each_below m lists p each.1

pub more : (n m : ℕ) → 1 ≤ m → n ≤ n * m
more n zero some = absurd (let wrong : ⊥ = omega (arith, some) in wrong)
more n (suc m) some = let product : n * suc m ≡ n * m + n = mul-suc n m in omega (arith, product)

-- ---- PDUs

pub noted_own : (x : Pdu) → is_noted x ≡ true → is_own x ≡ true
noted_own (Replies reply) e = absurd (false≢true e)
noted_own (Owns own) e = refl
noted_own (Pings tag) e = absurd (false≢true e)
noted_own Notices e = absurd (false≢true e)

pub sent_reply : (x : Pdu) (ticket sent : Option ℕ) → IsOwnOut x ticket sent → is_some sent ≡ true → is_reply x ≡ true
sent_reply (Replies reply) ticket sent own some = refl
sent_reply (Owns p) ticket sent own some = absurd (false≢true (sym (ap is_some own.1) ∙ some))
sent_reply (Pings tag) ticket sent own some = absurd own
sent_reply Notices ticket sent own some = absurd own

pub sent_place : (p : ℕ) (out : Outgoing) → is_sent_at p out ≡ true → is_place p out.sent ≡ true
sent_place p out is = by_sent (out.sent) is
  where
    by_sent : (x : Option ℕ) → elim x [ Some q ↦ q == p | None ↦ false ] ≡ true → is_place p x ≡ true
    by_sent (Some q) e = e
    by_sent None e = e

-- ---- the room

abbrev pub IsRoomy : State → Type 0
IsRoomy s = (p : ℕ) → length (of_conn p s.replies.waiting) + length (of_conn p s.noted.handed) + length (of_conn p s.unwritten.handed) ≤ s.room

module _ (i : Interface) (s : StepsSide) (r : Side) (h : Stands i s r) (left : Box) (fit : IsFit i r.both.box left) where
  abbrev queued : ℕ → List (Option ℕ)
  queued p = map (λ (out : Outgoing). out.sent) (link_in r.both.box.links p).queue

  abbrev undue : List (Option ℕ)
  undue = map (λ (a : Answer). a.out.sent) r.both.box.undue

  found : (p : ℕ) → p < length r.both.box.links → (place : ℕ) → count_by (has_log_place place) (of_conn p s.state.replies.waiting) ≤ count_by (is_place place) (queued p ++ undue)
  found p short place =
      let parts = sum_by-append (λ (x : Option ℕ). cond (is_place place x) 1 0) (queued p) undue in
      let here = count-weaker (is_sent_at place) (λ (out : Outgoing). is_place place out.sent) (link_in r.both.box.links p).queue (sent_place place) in
      let later = count-weaker (λ (a : Answer). a.conn == (link_in r.both.box.links p).conn && is_sent_at place a.out) (λ (a : Answer). is_place place a.out.sent) r.both.box.undue
      (λ a k. sent_place place a.out (and_parts (a.conn == (link_in r.both.box.links p).conn) (is_sent_at place a.out) k).1) in
      omega (arith, (h.requests.conns p short).queued.sent place, parts, here, later, count_map (λ (out : Outgoing). out.sent) (is_place place) (link_in r.both.box.links p).queue, count_map (λ (a : Answer). a.out.sent) (is_place place) r.both.box.undue)

  pub few_replies : (p : ℕ) → p < length r.both.box.links → length (of_conn p s.state.replies.waiting) ≤ replies_waiting r.both.box
  few_replies p short =
      let all : length (of_conn p s.state.replies.waiting) ≤ count_by is_some (queued p ++ undue) = fewer (queued p ++ undue) (of_conn p s.state.replies.waiting)
      (λ place. omega (arith, lists_at (has_log_place place) s.state.replies.waiting p, h.requests.once place)) (found p short) in
      let parts = sum_by-append (λ (x : Option ℕ). cond (is_some x) 1 0) (queued p) undue in
      let here = count_inside (IsKnownOut h.names r.both.trace r.answers) (λ (out : Outgoing). is_some out.sent) (λ (out : Outgoing). is_reply out.pdu) (link_in r.both.box.links p).queue (h.requests.conns p short).queued.known
      (λ out k some. sent_reply out.pdu out.ticket out.sent k.own some) in
      let later = count_inside (IsUndue h.names r.answers) (λ (a : Answer). is_some a.out.sent) (λ (a : Answer). is_reply a.out.pdu) r.both.box.undue h.requests.undue (λ a k some. k.reply) in
      let sum = sum_at (λ (m : Link). count_by (λ (out : Outgoing). is_reply out.pdu) m.queue) r.both.box.links p short in
      omega (arith, all, parts, here, later, sum, count_map (λ (out : Outgoing). out.sent) is_some (link_in r.both.box.links p).queue, count_map (λ (a : Answer). a.out.sent) is_some r.both.box.undue)

  pub few_noted : (p : ℕ) → p < length r.both.box.links → length (of_conn p s.state.noted.handed) ≤ i.outbox.own
  few_noted p short =
      let sound : IsLinkSound i.outbox r.both.box.tasks (link_in r.both.box.links p) = each-at (IsLinkSound i.outbox r.both.box.tasks) r.both.box.links p (new_link 0) short fit.sound.links in
      let owned = count-weaker (λ (o : Outgoing). is_noted o.pdu) (λ (o : Outgoing). is_own o.pdu) (link_in r.both.box.links p).queue (λ o noted. noted_own o.pdu noted) in
      omega (arith, owned, (h.requests.conns p short).queued.noting, sound.own)

  pub roomy : IsRoomy s.state
  roomy p = ⊎_elim within beyond (cases_lt p (length (cids i)))
    where
      within : p < length (cids i) → length (of_conn p s.state.replies.waiting) + length (of_conn p s.state.noted.handed) + length (of_conn p s.state.unwritten.handed) ≤ s.state.room
      within lt =
          let short : p < length r.both.box.links = omega (arith, lt, as_many_links i s.state r h.outbox) in
          let product = more (i.outbox.own + i.unwritten) (length (cids i)) (omega (arith, lt)) in
          let conns = length-map i.outbox.session.conns (λ (c : ℕ × ℕ). c.0) in
          omega (arith, few_replies p short, few_noted p short, each_below i.unwritten s.state.unwritten.handed p h.sizes.few, h.sizes.room, fit.fits.replies, product, conns)

      beyond : length (cids i) ≤ p → length (of_conn p s.state.replies.waiting) + length (of_conn p s.state.noted.handed) + length (of_conn p s.state.unwritten.handed) ≤ s.state.room
      beyond far =
          let replies = ap length (nothing_beyond s.state.replies.waiting p (omega (arith, far, h.sizes.replies))) in
          let noted = ap length (nothing_beyond s.state.noted.handed p (omega (arith, far, h.sizes.noted))) in
          let unwritten = ap length (nothing_beyond s.state.unwritten.handed p (omega (arith, far, h.sizes.unwritten))) in
          omega (arith, replies, noted, unwritten)
