-- What the steps keep of replies and own PDUs that wait on a connection that another one's Logout closed, until they are swept: the rules have dropped it.
use Rattle.std.proofs.Common.{◌≡◌, ℕ, zero, suc, ◌+◌, ◌%◌, ◌^◌, ◌<◌, ◌≤◌, ◌&&◌, cond, nat_lt, Bool, true, false, List, [], ◌∷◌, ◌++◌, length, map, set, Option, Some, None, refl, ap, sym, ◌∙◌, ◌==◌, arith, lt-ltb, length-append, length-set}
use Rattle.std.proofs.lemmas.List.{append-nil}
use Rattle.iscsi_rules.specs.declared.effect.Effect.{Effect}
use Rattle.iscsi_rules.specs.declared.effect.Effect.TheVariants.{Send}
use Rattle.iscsi_wire.specs.declared.reply.Reply.{Reply}
use Rattle.iscsi_outbox_steps.specs.State.{place_of}
use Rattle.iscsi_requests.specs.Conns.{count_all, of_conn}
use Rattle.iscsi_requests.specs.Replies.{WaitingReplies, pushed}
use Rattle.iscsi_requests.specs.Unwritten.{Unwritten}
use Rattle.iscsi_requests.specs.declared.replies.WaitingReply.{WaitingReply}
use Rattle.iscsi_ffi_steps.specs.State.{State}
use Rattle.iscsi_ffi_steps.specs.Walk.{Walk, answering, may_wait, on_effect, send_as, walking, in_state}
use Rattle.iscsi_ffi_law.specs.Uses.{count_lists, is_place}
use Rattle.iscsi_ffi_law.proofs.requests.Aside.{effect_aside, effect_kept, is_send, set_walk}

-- ---- one list behind the other, connection by connection

module _ {X : Type 0} where
  abbrev pub joined : List (List X) → List (List X) → List (List X)
  joined [] ys = []
  joined (x ∷ xs) [] = x ∷ xs
  joined (x ∷ xs) (y ∷ ys) = (x ++ y) ∷ joined xs ys

  pub joined_long : (xs ys : List (List X)) → length (joined xs ys) ≡ length xs
  joined_long [] ys = refl
  joined_long (x ∷ xs) [] = refl
  joined_long (x ∷ xs) (y ∷ ys) = ap suc (joined_long xs ys)

  pub joined_at : (xs ys : List (List X)) (p : ℕ) → length ys ≡ length xs → of_conn p (joined xs ys) ≡ of_conn p xs ++ of_conn p ys
  joined_at [] [] p long = refl
  joined_at [] (y ∷ ys) p long = absurd (let no : ⊥ = omega (arith, long) in no)
  joined_at (x ∷ xs) [] p long = absurd (let no : ⊥ = omega (arith, long) in no)
  joined_at (x ∷ xs) (y ∷ ys) zero long = refl
  joined_at (x ∷ xs) (y ∷ ys) (suc p) long = joined_at xs ys p (omega (arith, long))

  pub joined_nothing : (xs ys : List (List X)) → ((p : ℕ) → of_conn p ys ≡ []) → joined xs ys ≡ xs
  joined_nothing [] ys none = refl
  joined_nothing (x ∷ xs) [] none = refl
  joined_nothing (x ∷ xs) (y ∷ ys) none = ap (λ (z : List X). (x ++ z) ∷ joined xs ys) (none 0) ∙ ap (λ (z : List X). z ∷ joined xs ys) (append-nil x) ∙ ap (λ zs. x ∷ zs) (joined_nothing xs ys (λ p. none (suc p)))

  pub joined_set : (xs ys : List (List X)) (p : ℕ) (v : List X) → of_conn p ys ≡ [] → joined (set xs p v) ys ≡ set (joined xs ys) p v
  joined_set [] ys p v none = refl
  joined_set (x ∷ xs) [] zero v none = refl
  joined_set (x ∷ xs) [] (suc p) v none = refl
  joined_set (x ∷ xs) (y ∷ ys) zero v none = ap (λ (z : List X). (v ++ z) ∷ joined xs ys) none ∙ ap (λ (z : List X). z ∷ joined xs ys) (append-nil v)
  joined_set (x ∷ xs) (y ∷ ys) (suc p) v none = ap (λ zs. (x ++ y) ∷ zs) (joined_set xs ys p v none)

  -- what waits on a connection is moved aside
  pub joined_moved : (xs ys : List (List X)) (p : ℕ) → length ys ≡ length xs → joined (set xs p []) (set ys p (of_conn p xs ++ of_conn p ys)) ≡ joined xs ys
  joined_moved [] [] p long = refl
  joined_moved [] (y ∷ ys) p long = absurd (let no : ⊥ = omega (arith, long) in no)
  joined_moved (x ∷ xs) [] p long = absurd (let no : ⊥ = omega (arith, long) in no)
  joined_moved (x ∷ xs) (y ∷ ys) zero long = refl
  joined_moved (x ∷ xs) (y ∷ ys) (suc p) long = ap (λ zs. (x ++ y) ∷ zs) (joined_moved xs ys p (omega (arith, long)))

  -- .. and dropped there
  pub joined_cleared : (xs ys : List (List X)) (p : ℕ) → length ys ≡ length xs → of_conn p xs ≡ [] → set (joined xs ys) p [] ≡ joined xs (set ys p [])
  joined_cleared [] [] p long none = refl
  joined_cleared [] (y ∷ ys) p long none = absurd (let no : ⊥ = omega (arith, long) in no)
  joined_cleared (x ∷ xs) [] p long none = absurd (let no : ⊥ = omega (arith, long) in no)
  joined_cleared (x ∷ xs) (y ∷ ys) zero long none = ap (λ (z : List X). z ∷ joined xs ys) (sym (ap (λ (z : List X). z ++ []) none))
  joined_cleared (x ∷ xs) (y ∷ ys) (suc p) long none = ap (λ zs. (x ++ y) ∷ zs) (joined_cleared xs ys p (omega (arith, long)) none)

  pub joined_count : (xs ys : List (List X)) → length ys ≡ length xs → count_all (joined xs ys) ≡ count_all xs + count_all ys
  joined_count [] [] long = refl
  joined_count [] (y ∷ ys) long = absurd (let no : ⊥ = omega (arith, long) in no)
  joined_count (x ∷ xs) [] long = absurd (let no : ⊥ = omega (arith, long) in no)
  joined_count (x ∷ xs) (y ∷ ys) long = let rest = joined_count xs ys (omega (arith, long)) in omega (arith, rest, length-append x y)

  -- one more on a connection
  pub more_count : (xs : List (List X)) (p : ℕ) (x : X) → count_all (set xs p (of_conn p xs ++ x ∷ [])) ≤ count_all xs + 1
  more_count [] p x = omega arith
  more_count (y ∷ ys) zero x = omega (arith, length-append y (x ∷ []))
  more_count (y ∷ ys) (suc p) x = let rest = more_count ys p x in omega (arith, rest)

-- ---- what isn't swept yet

pub record Unswept : Type 0 where
  pub replies : List (List WaitingReply)
  pub noted : List (List (Option ℕ))

abbrev pub none_unswept : State → Unswept
none_unswept s = record { replies = map (λ (xs : List WaitingReply). []) s.replies.waiting; noted = map (λ (xs : List (Option ℕ)). []) s.noted.handed }

-- how often the place of a request stands in it
abbrev pub unswept_at : Unswept → ℕ → ℕ
unswept_at u place = count_lists (λ (x : WaitingReply). x.request == place) u.replies + count_lists (is_place place) u.noted

abbrev pub with_replies : Unswept → WaitingReplies → WaitingReplies
with_replies u v = record v { waiting = joined v.waiting u.replies }

abbrev pub with_noted : Unswept → Unwritten → Unwritten
with_noted u v = record v { handed = joined v.handed u.noted }

abbrev pub put_state : Unswept → State → State
put_state u s = record s { replies = with_replies u s.replies; noted = with_noted u s.noted }

abbrev pub put_walk : Unswept → Walk → Walk
put_walk u w = record w { doing = record w.doing { state = put_state u w.doing.state } }

pub none_at : {X : Type 0} (lists : List (List X)) (p : ℕ) → of_conn {X = X} p (map (λ (xs : List X). []) lists) ≡ []
none_at [] p = refl
none_at (xs ∷ lists) zero = refl
none_at (xs ∷ lists) (suc p) = none_at lists p

pub nothing_counted : {X : Type 0} (lists : List (List X)) → count_all {X = X} (map (λ (xs : List X). []) lists) ≡ 0
nothing_counted [] = refl
nothing_counted (xs ∷ lists) = let rest = nothing_counted lists in omega (arith, rest)

pub none_counted : {X : Type 0} (q : X → Bool) (lists : List (List X)) → count_lists {X = X} q (map (λ (xs : List X). []) lists) ≡ 0
none_counted q [] = refl
none_counted q (xs ∷ lists) = let rest = none_counted q lists in omega (arith, rest)

-- ---- the walk

abbrev pub is_some_effect : List Effect → Bool
is_some_effect [] = false
is_some_effect (e ∷ es) = true

pub put_effect : (u : Unswept) (first : Bool) (e : Effect) (w : Walk) → is_send e ≡ false → on_effect first e (put_walk u w) ≡ put_walk u (on_effect first e w)
put_effect u first e w other =
    let kept = effect_kept first e w other in
    effect_aside (with_replies u w.doing.state.replies) (with_noted u w.doing.state.noted) first e w other
    ∙ ap (λ (v : WaitingReplies). set_walk (with_replies u v) (with_noted u w.doing.state.noted) (on_effect first e w)) (sym kept.0)
    ∙ ap (λ (v : Unwritten). set_walk (with_replies u (on_effect first e w).doing.state.replies) (with_noted u v) (on_effect first e w)) (sym kept.1)

-- a reply goes out on a connection of which nothing is to be swept
module _ (u : Unswept) (w : Walk) (cid sn p : ℕ) (reply : Reply) (long : length u.replies ≡ length w.doing.state.replies.waiting) (at : place_of w.doing.state.outbox cid ≡ Some p) (none : of_conn p u.replies ≡ []) (room : count_all w.doing.state.replies.waiting + count_all u.replies < w.doing.state.replies.room) where
  abbrev v : WaitingReplies
  v = w.doing.state.replies

  same_room : may_wait w.sent (with_replies u v) ≡ may_wait w.sent v
  same_room =
      let more = joined_count v.waiting u.replies long in
      ap (λ b. b && nat_lt (w.sent + 1) (2 ^ 64) && elim (v.last) as (λ (y : Option ℕ). Bool) [ Some last ↦ nat_lt last w.sent | None ↦ true ])
      (lt-ltb (count_all (joined v.waiting u.replies)) v.room (omega (arith, room, more)) ∙ sym (lt-ltb (count_all v.waiting) v.room (omega (arith, room))))

  same_pushed : (x : WaitingReply) → pushed p x (with_replies u v) ≡ with_replies u (pushed p x v)
  same_pushed x =
      ap (λ (xs : List WaitingReply). record v { waiting = set (joined v.waiting u.replies) p (xs ++ x ∷ []); last = Some (x.log_place) })
      (joined_at v.waiting u.replies p long ∙ ap (λ (xs : List WaitingReply). of_conn p v.waiting ++ xs) none ∙ append-nil (of_conn p v.waiting))
      ∙ ap (λ (xs : List (List WaitingReply)). record v { waiting = xs; last = Some (x.log_place) }) (sym (joined_set v.waiting u.replies p (of_conn p v.waiting ++ x ∷ []) none))

  pub put_send : (first : Bool) → on_effect first (Send cid sn reply) (put_walk u w) ≡ put_walk u (on_effect first (Send cid sn reply) w)
  put_send first =
      ap (λ (x : Option ℕ). record (send_as x (answering w) (put_walk u w)) { sent = (w.sent + 1) % 2 ^ 64 }) at
      ∙ ap (λ (y : Walk). record y { sent = (w.sent + 1) % 2 ^ 64 }) (by_answering (answering w))
      ∙ ap (λ (x : Option ℕ). put_walk u (record (send_as x (answering w) w) { sent = (w.sent + 1) % 2 ^ 64 })) (sym at)
    where
      by_answering : (x : Option ℕ) → send_as (Some p) x (put_walk u w) ≡ put_walk u (send_as (Some p) x w)
      by_answering None = refl
      by_answering (Some request) =
          let its : WaitingReply = record { log_place = w.sent; request = request } in
          ap (λ b. cond b (walking (in_state (λ (s : State). record s { replies = pushed p its s.replies })) (record (put_walk u w) { current = None; own = None })) (put_walk u w)) same_room
          ∙ by_room (may_wait w.sent v) its
        where
          by_room : (b : Bool) (its : WaitingReply)
              → cond b (walking (in_state (λ (s : State). record s { replies = pushed p its s.replies })) (record (put_walk u w) { current = None; own = None })) (put_walk u w)
              ≡ put_walk u (cond b (walking (in_state (λ (s : State). record s { replies = pushed p its s.replies })) (record w { current = None; own = None })) w)
          by_room false its = refl
          by_room true its = ap (λ (x : WaitingReplies). record (put_walk u w) { doing = record w.doing { state = record (put_state u w.doing.state) { replies = x } }; current = None; own = None }) (same_pushed its)

  -- one reply more waits at the most
  pub send_count : (first : Bool) → count_all (on_effect first (Send cid sn reply) w).doing.state.replies.waiting ≤ count_all v.waiting + 1
  send_count first = by_places (place_of w.doing.state.outbox cid) (answering w)
    where
      by_places : (x y : Option ℕ) → count_all (send_as x y w).doing.state.replies.waiting ≤ count_all v.waiting + 1
      by_places None None = omega arith
      by_places None (Some request) = omega arith
      by_places (Some conn) None = omega arith
      by_places (Some conn) (Some request) = by_room (may_wait w.sent v)
        where
          by_room : (b : Bool) → count_all (cond b (walking (in_state (λ (s : State). record s { replies = pushed conn (record { log_place = w.sent; request = request }) s.replies })) (record w { current = None; own = None })) w).doing.state.replies.waiting ≤ count_all v.waiting + 1
          by_room false = omega arith
          by_room true = more_count v.waiting conn (record { log_place = w.sent; request = request })

  pub send_kept : (first : Bool) → (length (on_effect first (Send cid sn reply) w).doing.state.replies.waiting ≡ length v.waiting) × ((on_effect first (Send cid sn reply) w).doing.state.replies.room ≡ v.room)
  send_kept first = by_places (place_of w.doing.state.outbox cid) (answering w)
    where
      Kept : Walk → Type 0
      Kept x = (length x.doing.state.replies.waiting ≡ length v.waiting) × (x.doing.state.replies.room ≡ v.room)

      by_places : (x y : Option ℕ) → Kept (send_as x y w)
      by_places None None = (refl, refl)
      by_places None (Some request) = (refl, refl)
      by_places (Some conn) None = (refl, refl)
      by_places (Some conn) (Some request) = by_room (may_wait w.sent v)
        where
          by_room : (b : Bool) → Kept (cond b (walking (in_state (λ (s : State). record s { replies = pushed conn (record { log_place = w.sent; request = request }) s.replies })) (record w { current = None; own = None })) w)
          by_room false = (refl, refl)
          by_room true = (length-set v.waiting conn (of_conn conn v.waiting ++ record { log_place = w.sent; request = request } ∷ []), refl)
