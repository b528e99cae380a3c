-- A PDU is handed out: what stands for the rest of a box.
use Rattle.std.proofs.Common.{◌≡◌, ℕ, zero, suc, ◌+◌, ◌<◌, ◌≤◌, ◌==◌, ◌&&◌, ◌||◌, ◌⊎◌, inl, inr, ⊎_elim, cond, Bool, true, false, List, [], ◌∷◌, ◌++◌, length, map, drop, filter, get_or, set, Option, Some, None, refl, ap, sym, subst, ◌∙◌, arith}
use Rattle.std.specs.List.{list_any}
use Rattle.std.proofs.lemmas.Bool.{cases_eq, false≢true}
use Rattle.std.proofs.lemmas.List.{drop-append-le, get_or-set_other, get_or-set_same, length-set}
use Rattle.std.proofs.lemmas.List.Folds.{list_any-append}
use Rattle.iscsi_arrivals.specs.declared.stamp.Stamp.{Stamp}
use Rattle.iscsi_arrivals.specs.Stamps.{IsUpToLast, handed_out, stamp_at}
use Rattle.iscsi_arrivals.proofs.LastLemmas.{last_fails, last_passes, or_false, same_stamp}
use Rattle.iscsi_outbox_rules.specs.rules.Calls.{Opening}
use Rattle.iscsi_outbox_rules.specs.rules.Boxes.{Phase, Dormant, Fresh, Started, Completed, Running, Gone, Task, Handed, Answer, Link}
use Rattle.iscsi_outbox_rules.specs.rules.Words.{has_under_way, is_left_phase, is_live_phase, is_of, is_open, is_running_phase, looks_for_arrival, unarrived}
use Rattle.iscsi_outbox_rules.specs.rules.Handing.{fenced_handed}
use Rattle.iscsi_outbox_rules.specs.rules.Run.{new_link}
use Rattle.iscsi_outbox_state.specs.declared.lane.Undue.{Undue}
use Rattle.iscsi_outbox_state.specs.declared.lane.Standing.{Standing}
use Rattle.iscsi_outbox_state.specs.declared.lane.Standing.TheVariants.{Left as IsLeft, Undue as IsUndue}
use Rattle.iscsi_outbox_state.specs.Waits.{Entry}
use Rattle.iscsi_outbox_steps.specs.declared.sent.Sent.{Sent}
use Rattle.iscsi_tracked.specs.Tracked.{Tracked}
use Rattle.iscsi_outbox_law.specs.private.Pairs.{PairsOf, EachOf}
use Rattle.iscsi_outbox_law.specs.private.Links.{AreQueues, IsEntry, IsQueue, live_place, place_of_command}
use Rattle.iscsi_outbox_law.specs.private.Commands.{IsLastOut, IsOut, is_kept, is_under_way, link_in, of_ticket}
use Rattle.iscsi_outbox_law.specs.private.Lanes.{AreAnswers, IsInScope}
use Rattle.iscsi_outbox_law.specs.private.Fences.{IsFence, IsLastFence}
use Rattle.iscsi_outbox_law.proofs.general.PairLemmas.{each-at, each-set, pairs-weaken}
use Rattle.iscsi_outbox_law.proofs.general.Members.{In}
use Rattle.iscsi_outbox_law.proofs.connections.LinkChanges.{up_within}

-- ---- lists

module _ {A B : Type 0} where
  -- the one changes
  pub pairs_turn : (R S : A → B → Type 0) (f : A → A) (xs : List A) (ys : List B) → ((x : A) (y : B) → In x xs → In y ys → R x y → S (f x) y) → PairsOf R xs ys → PairsOf S (map f xs) ys
  pairs_turn R S f [] [] k h = tt
  pairs_turn R S f (x ∷ xs) (y ∷ ys) k h = (k x y (inl refl) (inl refl) h.0, pairs_turn R S f xs ys (λ v w at for. k v w (inr at) (inr for)) h.1)
  pairs_turn R S f [] (y ∷ ys) k h = absurd h
  pairs_turn R S f (x ∷ xs) [] k h = absurd h

  pub pairs_keep : (R S : A → B → Type 0) (xs : List A) (ys : List B) → ((x : A) (y : B) → In x xs → In y ys → R x y → S x y) → PairsOf R xs ys → PairsOf S xs ys
  pairs_keep R S [] [] k h = tt
  pairs_keep R S (x ∷ xs) (y ∷ ys) k h = (k x y (inl refl) (inl refl) h.0, pairs_keep R S xs ys (λ v w at for. k v w (inr at) (inr for)) h.1)
  pairs_keep R S [] (y ∷ ys) k h = absurd h
  pairs_keep R S (x ∷ xs) [] k h = absurd h

pub filter_same : {A : Type 0} (p q : A → Bool) (xs : List A) → ((x : A) → In x xs → p x ≡ q x) → filter p xs ≡ filter q xs
filter_same p q [] same = refl
filter_same p q (x ∷ xs) same = ap (λ (v : Bool). cond v (x ∷ filter p xs) (filter p xs)) (same x (inl refl)) ∙ ap (λ ys. cond (q x) (x ∷ ys) ys) (filter_same p q xs (λ y at. same y (inr at)))

pub any_set_or : {A : Type 0} (p : A → Bool) (xs : List A) (n : ℕ) (y d : A) (v : Bool) → n < length xs → p y ≡ (p (get_or xs n d) || v) → list_any p (set xs n y) ≡ (list_any p xs || v)
any_set_or p [] n y d v lt is = absurd (omega (arith, lt))
any_set_or p (x ∷ xs) zero y d v lt is = ap (λ (u : Bool). u || list_any p xs) is ∙ swapped (p x) v (list_any p xs)
  where
    swapped : (a b c : Bool) → ((a || b) || c) ≡ ((a || c) || b)
    swapped true b c = refl
    swapped false true true = refl
    swapped false true false = refl
    swapped false false true = refl
    swapped false false false = refl
any_set_or p (x ∷ xs) (suc n) y d v lt is = ap (λ (u : Bool). p x || u) (any_set_or p xs n y d v (omega (arith, lt)) is) ∙ joined (p x) (list_any p xs) v
  where
    joined : (a b c : Bool) → (a || (b || c)) ≡ ((a || b) || c)
    joined true b c = refl
    joined false b c = refl

any_push : {A : Type 0} (p : A → Bool) (k : ℕ) (xs : List A) (x : A) → k ≤ length xs → list_any p (drop k (xs ++ x ∷ [])) ≡ (list_any p (drop k xs) || p x)
any_push p k xs x le =
    ap (list_any p) (drop-append-le k xs (x ∷ []) le) ∙ list_any-append p (drop k xs) (x ∷ []) ∙ ap (λ (v : Bool). list_any p (drop k xs) || v) (or_false (p x))

-- ---- one link

module _ (o : Opening) (l : Link) (h : Handed) (opens : is_open l ≡ true) (arrived_few : l.arrived ≤ length l.handed) (written_few : l.written ≤ length l.handed) where
  pub under_more : (these : ℕ → Bool) → has_under_way o these (handed_out h l) ≡ (has_under_way o these l || is_of these h.out)
  under_more these = by_tests (is_open l) (looks_for_arrival o) opens
    where
      test : Handed → Bool
      test g = is_of these g.out

      by_tests : (v w : Bool) → v ≡ true
          → list_any (λ (g : Handed). is_of these g.out) (cond v (cond w (drop l.arrived (l.handed ++ h ∷ [])) (drop l.written (l.handed ++ h ∷ []))) [])
          ≡ (list_any (λ (g : Handed). is_of these g.out) (cond v (cond w (drop l.arrived l.handed) (drop l.written l.handed)) []) || is_of these h.out)
      by_tests true true is = any_push (λ (g : Handed). is_of these g.out) l.arrived l.handed h arrived_few
      by_tests true false is = any_push (λ (g : Handed). is_of these g.out) l.written l.handed h written_few
      by_tests false w is = absurd (false≢true is)

  pub fence_more : list_any fenced_handed (unarrived (handed_out h l)) ≡ (list_any fenced_handed (unarrived l) || h.out.fenced)
  fence_more = any_push fenced_handed l.arrived l.handed h arrived_few

-- ---- all links

module _ (o : Opening) (links : List Link) (p : ℕ) (h : Handed) (within : p < length links) (opens : is_open (link_in links p) ≡ true)
    (arrived_few : (link_in links p).arrived ≤ length (link_in links p).handed) (written_few : (link_in links p).written ≤ length (link_in links p).handed) where
  abbrev pub after : List Link
  after = set links p (handed_out h (link_in links p))

  abbrev pub names : ℕ → Bool
  names ticket = is_of (λ k. k == ticket) h.out

  pub under_after : (ticket : ℕ) → is_under_way o after ticket ≡ (is_under_way o links ticket || names ticket)
  under_after ticket = any_set_or (has_under_way o (λ k. k == ticket)) links p (handed_out h (link_in links p)) (new_link 0) (names ticket) within (under_more o (link_in links p) h opens arrived_few written_few (λ k. k == ticket))

  pub here_after : link_in after p ≡ handed_out h (link_in links p)
  here_after = get_or-set_same links p (handed_out h (link_in links p)) (new_link 0) within

  pub there_after : (n : ℕ) → (n ≡ p → ⊥) → link_in after n ≡ link_in links n
  there_after n apart = get_or-set_other links p n (handed_out h (link_in links p)) (new_link 0) apart

  -- what isn't of the PDU's command stays as it was
  last_kept : (ticket n : ℕ) (stamp : Stamp) → names ticket ≡ false → IsLastOut ticket (link_in links n) stamp → IsLastOut ticket (link_in after n) stamp
  last_kept ticket n stamp isnt k =
      ⊎_elim
      (λ same.
      subst (λ (m : Link). IsLastOut ticket m stamp) (sym (ap (link_in after) same ∙ here_after))
      (let j : IsLastOut ticket (link_in links p) stamp = subst (λ q. IsLastOut ticket (link_in links q) stamp) same k in
      let lt : j.place < length (link_in links p).handed = up_within (of_ticket ticket) (link_in links p).handed j.place j.last in
      record {
        place = j.place;
        stamp = j.stamp ∙ sym (same_stamp (link_in links p) h j.place (omega (arith, lt)));
        last = last_fails (of_ticket ticket) (link_in links p).handed h (j.place + 1) isnt j.last;
      }))
      (λ apart. subst (λ (m : Link). IsLastOut ticket m stamp) (sym (there_after n apart)) k)
      (cases_eq n p)

  pub out_kept : (ticket n : ℕ) (x : Option Stamp) → names ticket ≡ false → IsOut (is_under_way o links) ticket (link_in links n) x → IsOut (is_under_way o after) ticket (link_in after n) x
  out_kept ticket n None isnt k = under_after ticket ∙ ap (λ (v : Bool). v || names ticket) k ∙ isnt
  out_kept ticket n (Some stamp) isnt k = (under_after ticket ∙ ap (λ (v : Bool). v || names ticket) k.0, last_kept ticket n stamp isnt k.1)

  -- and this one is its last
  pub out_new : (ticket : ℕ) (stamp : Stamp) → names ticket ≡ true → stamp ≡ stamp_at (link_in links p) (length (link_in links p).handed) → IsOut (is_under_way o after) ticket (link_in after p) (Some stamp)
  out_new ticket stamp named is = (
    under_after ticket ∙ ap (λ (v : Bool). is_under_way o links ticket || v) named ∙ or_yes (is_under_way o links ticket),
    subst (λ (m : Link). IsLastOut ticket m stamp) (sym here_after) (record {
      place = length (link_in links p).handed;
      stamp = is ∙ sym (same_stamp (link_in links p) h (length (link_in links p).handed) (omega arith));
      last = last_passes (of_ticket ticket) (link_in links p).handed h named;
    }),
  )
    where
      or_yes : (v : Bool) → (v || true) ≡ true
      or_yes true = refl
      or_yes false = refl

  kept_one : (phase : Phase) (u n : Bool) → (is_left_phase phase ≡ true → n ≡ false) → (is_live_phase phase || (is_running_phase phase || (is_left_phase phase && (u || n)))) ≡ (is_live_phase phase || (is_running_phase phase || (is_left_phase phase && u)))
  kept_one Dormant u n isnt = refl
  kept_one Fresh u n isnt = refl
  kept_one Started u n isnt = refl
  kept_one Completed u n isnt = refl
  kept_one Running u n isnt = refl
  kept_one Gone u n isnt = ap (λ (v : Bool). u || v) (isnt refl) ∙ or_false u

  pub kept_same : (tasks : List Task) → ((t : Task) → In t tasks → is_left_phase t.phase ≡ true → names t.ticket ≡ false) → filter (is_kept (is_under_way o after)) tasks ≡ filter (is_kept (is_under_way o links)) tasks
  kept_same tasks isnt =
      filter_same (is_kept (is_under_way o after)) (is_kept (is_under_way o links)) tasks
      (λ t at. ap (λ (v : Bool). is_live_phase t.phase || (is_running_phase t.phase || (is_left_phase t.phase && v))) (under_after t.ticket) ∙ kept_one t.phase (is_under_way o links t.ticket) (names t.ticket) (isnt t at))

  -- ---- the fence

  fence_last : (looks : Bool) (f : Sent) → h.out.fenced ≡ false → IsLastFence looks links f → IsLastFence looks after f
  fence_last looks f isnt k = record {
    place = k.place;
    stamp = at_conn.0;
    last = at_conn.1;
    conn = omega (arith, k.conn, length-set links p (handed_out h (link_in links p)));
    others = λ looking n lt apart is. other looking n (omega (arith, lt, length-set links p (handed_out h (link_in links p)))) apart is (cases_eq n p);
  }
    where
      at_conn : (f.stamp ≡ stamp_at (link_in after f.conn) k.place) × IsUpToLast fenced_handed (link_in after f.conn).handed (k.place + 1)
      at_conn =
          ⊎_elim
          (λ same.
          subst (λ (m : Link). (f.stamp ≡ stamp_at m k.place) × IsUpToLast fenced_handed m.handed (k.place + 1)) (sym (ap (link_in after) same ∙ here_after))
          (let lt : k.place < length (link_in links p).handed = up_within fenced_handed (link_in links p).handed k.place (subst (λ q. IsUpToLast fenced_handed (link_in links q).handed (k.place + 1)) same k.last) in (
            k.stamp ∙ ap (λ q. stamp_at (link_in links q) k.place) same ∙ sym (same_stamp (link_in links p) h k.place (omega (arith, lt))),
            last_fails fenced_handed (link_in links p).handed h (k.place + 1) isnt (subst (λ q. IsUpToLast fenced_handed (link_in links q).handed (k.place + 1)) same k.last),
          )))
          (λ apart. subst (λ (m : Link). (f.stamp ≡ stamp_at m k.place) × IsUpToLast fenced_handed m.handed (k.place + 1)) (sym (there_after f.conn apart)) (k.stamp, k.last))
          (cases_eq f.conn p)

      other : looks ≡ true → (n : ℕ) → n < length links → (n ≡ f.conn → ⊥) → is_open (link_in after n) ≡ true → (n ≡ p) ⊎ (n ≡ p → ⊥) → list_any fenced_handed (unarrived (link_in after n)) ≡ false
      other looking n lt apart is (inl same) =
          ap (λ (m : Link). list_any fenced_handed (unarrived m)) (ap (link_in after) same ∙ here_after)
          ∙ fence_more o (link_in links p) h opens arrived_few written_few
          ∙ ap (λ (v : Bool). v || h.out.fenced) (k.others looking p within (λ e. apart (same ∙ e)) opens) ∙ isnt
      other looking n lt apart is (inr there) =
          ap (λ (m : Link). list_any fenced_handed (unarrived m)) (there_after n there)
          ∙ k.others looking n lt apart (sym (ap is_open (there_after n there)) ∙ is)

  pub fence_kept : (looks : Bool) (f : Option Sent) → h.out.fenced ≡ false → IsFence looks links f → IsFence looks after f
  fence_kept looks None isnt k =
      each-set (λ (m : Link). list_any fenced_handed m.handed ≡ false) links p (handed_out h (link_in links p))
      (list_any-append fenced_handed (link_in links p).handed (h ∷ []) ∙ ap (λ (v : Bool). v || (h.out.fenced || false)) (each-at (λ (m : Link). list_any fenced_handed m.handed ≡ false) links p (new_link 0) within k) ∙ or_false h.out.fenced ∙ isnt) k
  fence_kept looks (Some f) isnt k = fence_last looks f isnt k

  -- this one is the last
  pub fence_new : (looks : Bool) (stamp : Stamp) → h.out.fenced ≡ true → stamp ≡ stamp_at (link_in links p) (length (link_in links p).handed)
      → (looks ≡ true → (n : ℕ) → n < length links → (n ≡ p → ⊥) → is_open (link_in links n) ≡ true → list_any fenced_handed (unarrived (link_in links n)) ≡ false)
      → IsFence looks after (Some (record { conn = p; stamp = stamp }))
  fence_new looks stamp is same others = record {
    place = length (link_in links p).handed;
    stamp = same ∙ sym (ap (λ (m : Link). stamp_at m (length (link_in links p).handed)) here_after ∙ same_stamp (link_in links p) h (length (link_in links p).handed) (omega arith));
    last = subst (λ (m : Link). IsUpToLast fenced_handed m.handed (length (link_in links p).handed + 1)) (sym here_after) (last_passes fenced_handed (link_in links p).handed h is);
    conn = omega (arith, within, length-set links p (handed_out h (link_in links p)));
    others = λ looking n lt apart opened.
        ap (λ (m : Link). list_any fenced_handed (unarrived m)) (there_after n apart)
        ∙ others looking n (omega (arith, lt, length-set links p (handed_out h (link_in links p)))) apart (sym (ap is_open (there_after n apart)) ∙ opened);
  }

-- ---- what stands by the commands' tickets, places and phases

pub answers_weaken : (cids : List ℕ) (v v' : Tracked) → ((before : List Standing) (a : Undue) (answer : Answer) → EachOf (IsInScope before a answer) v.commands → EachOf (IsInScope before a answer) v'.commands)
    → (before items : List Standing) (answers : List Answer) → AreAnswers cids v before items answers → AreAnswers cids v' before items answers
answers_weaken cids v v' f before [] [] h = tt
answers_weaken cids v v' f before [] (answer ∷ answers) h = absurd h
answers_weaken cids v v' f before (IsLeft c ∷ items) answers h = answers_weaken cids v v' f (before ++ IsLeft c ∷ []) items answers h
answers_weaken cids v v' f before (IsUndue a ∷ items) [] h = absurd h
answers_weaken cids v v' f before (IsUndue a ∷ items) (answer ∷ answers) h = (
  record {
    pdu = h.0.pdu;
    sent = h.0.sent;
    conn = h.0.conn;
    aim = h.0.aim;
    takes = h.0.takes;
    fenced = h.0.fenced;
    numbered = h.0.numbered;
    ends = h.0.ends;
    ticket = h.0.ticket;
    uncleared = h.0.uncleared;
    scope = f before a answer h.0.scope;
  },
  answers_weaken cids v v' f (before ++ IsUndue a ∷ []) items answers h.1,
)

pub queues_weaken : (v v' : Tracked) → ((k : ℕ) → live_place v' k ≡ live_place v k) → (queues : List (List Entry)) (links : List Link) → AreQueues v queues links → AreQueues v' queues links
queues_weaken v v' same queues links h =
    pairs-weaken (IsQueue v) (IsQueue v') queues links
    (λ q l k. pairs-weaken (IsEntry v l.conn) (IsEntry v' l.conn) q l.queue (λ e out j. record {
      time = j.time;
      pdu = j.pdu;
      sent = j.sent;
      takes = j.takes;
      fenced = j.fenced;
      numbered = j.numbered;
      ends = j.ends;
      command = j.command ∙ by_ticket (out.ticket);
    }) k) h
  where
    by_ticket : (x : Option ℕ) → place_of_command v x ≡ place_of_command v' x
    by_ticket None = refl
    by_ticket (Some k) = sym (same k)
