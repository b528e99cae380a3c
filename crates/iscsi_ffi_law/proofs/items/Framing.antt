-- The walk over an item is the same where something is still to be swept, as its reply goes out on a connection of which nothing is.
use Rattle.std.proofs.Common.{◌≡◌, ℕ, ◌+◌, ◌<◌, ◌≤◌, Bool, false, List, [], ◌∷◌, ◌++◌, inl, inr, ⊎_elim, length, count_by, filter_map, Some, refl, ap, sym, ◌∙◌, arith}
use Rattle.iscsi_rules.specs.declared.effect.Effect.{Effect}
use Rattle.iscsi_rules.specs.declared.effect.Effect.TheVariants.{CloseConn, CloseSession, Deliver, Empty, Enable, Enter, Ignore, Immediate, Leave, Send, Void, Wait}
use Rattle.iscsi_rules.specs.rules.Trace.{first_of}
use Rattle.iscsi_rules.proofs.general.CountLemmas.{count-cons}
use Rattle.iscsi_rules.proofs.general.ElementLemmas.{In}
use Rattle.iscsi_wire.specs.declared.reply.Reply.{Reply}
use Rattle.iscsi_outbox_rules.specs.rules.Items.{reply_sent}
use Rattle.iscsi_outbox_law.specs.private.Pairs.{EachOf}
use Rattle.iscsi_outbox_steps.specs.State.{State as OutboxState, place_of}
use Rattle.iscsi_outbox_steps.specs.Steps.{as_list, counted_from}
use Rattle.iscsi_requests.specs.Conns.{count_all, of_conn}
use Rattle.iscsi_requests.specs.Replies.{WaitingReplies}
use Rattle.iscsi_ffi_steps.specs.State.{State}
use Rattle.iscsi_ffi_steps.specs.Walk.{Walk, end_item, on_effect, on_effects, touched_by}
use Rattle.iscsi_ffi_law.proofs.requests.Aside.{effect_kept, effect_outbox, end_aside, is_send, set_walk}
use Rattle.iscsi_ffi_law.proofs.events.Unswept.{Unswept, put_effect, put_send, put_walk, send_count, send_kept, with_noted, with_replies}

-- the walk over these effects, as far as they go
abbrev pub walked : Bool → List Effect → Walk → Walk
walked first [] w = w
walked first (e ∷ es) w = walked false es (on_effect first e w)

pub past_walked : (first : Bool) (e : Effect) (es rest : List Effect) (w : Walk) → on_effects first ((e ∷ es) ++ rest) w ≡ on_effects false rest (walked first (e ∷ es) w)
past_walked first e [] rest w = refl
past_walked first e (d ∷ es) rest w = past_walked false d es rest (on_effect first e w)

-- the end of an item, too
pub put_end : (u : Unswept) (w : Walk) → end_item (put_walk u w) ≡ put_walk u (end_item w)
put_end u w =
    let same : end_item w ≡ set_walk w.doing.state.replies w.doing.state.noted (end_item w) = end_aside w.doing.state.replies w.doing.state.noted w in
    end_aside (with_replies u w.doing.state.replies) (with_noted u w.doing.state.noted) w
    ∙ ap (λ (x : Walk). set_walk (with_replies u x.doing.state.replies) (with_noted u x.doing.state.noted) (end_item w)) (sym same)

-- it is sent on such a connection
abbrev pub IsSentTo : (ℕ → Type 0) → Effect → Type 0
IsSentTo C (Send cid sn reply) = C cid
IsSentTo C _ = Unit {0}

abbrev pub IsClear : Unswept → OutboxState → ℕ → Type 0
IsClear u o cid = (p : ℕ) × ((place_of o cid ≡ Some p) × (of_conn p u.replies ≡ []))

pub walked_put : (u : Unswept) (o : OutboxState) (first : Bool) (es : List Effect) (w : Walk) → w.doing.state.outbox ≡ o → length u.replies ≡ length w.doing.state.replies.waiting → EachOf (IsSentTo (IsClear u o)) es
    → count_all w.doing.state.replies.waiting + count_all u.replies + count_by is_send es ≤ w.doing.state.replies.room → walked first es (put_walk u w) ≡ put_walk u (walked first es w)
walked_put u o first [] w same long clear room = refl
walked_put u o first (e ∷ es) w same long clear room = by_effect e clear.0 room (λ w' same' long' room'. walked_put u o false es w' same' long' clear.1 room')
  where
    Further : Type 0
    Further = (w' : Walk) → w'.doing.state.outbox ≡ o → length u.replies ≡ length w'.doing.state.replies.waiting → count_all w'.doing.state.replies.waiting + count_all u.replies + count_by is_send es ≤ w'.doing.state.replies.room → walked false es (put_walk u w') ≡ put_walk u (walked false es w')

    plain : (d : Effect) → is_send d ≡ false → count_all w.doing.state.replies.waiting + count_all u.replies + count_by is_send (d ∷ es) ≤ w.doing.state.replies.room → Further → walked false es (on_effect first d (put_walk u w)) ≡ put_walk u (walked false es (on_effect first d w))
    plain d other few further =
        let kept = effect_kept first d w other in
        let long_kept = ap (λ (v : WaitingReplies). length v.waiting) kept.0 in
        let count_kept = ap (λ (v : WaitingReplies). count_all v.waiting) kept.0 in
        let room_kept = ap (λ (v : WaitingReplies). v.room) kept.0 in
        ap (walked false es) (put_effect u first d w other)
        ∙ further (on_effect first d w) (effect_outbox first d w ∙ same) (long ∙ sym long_kept) (omega (arith, few, count_kept, room_kept, count-cons is_send d es))

    by_effect : (d : Effect) → IsSentTo (IsClear u o) d → count_all w.doing.state.replies.waiting + count_all u.replies + count_by is_send (d ∷ es) ≤ w.doing.state.replies.room → Further → walked false es (on_effect first d (put_walk u w)) ≡ put_walk u (walked false es (on_effect first d w))
    by_effect (Deliver r) c few further = plain (Deliver r) refl few further
    by_effect (Immediate r) c few further = plain (Immediate r) refl few further
    by_effect (Wait r) c few further = plain (Wait r) refl few further
    by_effect (Void n) c few further = plain (Void n) refl few further
    by_effect (Empty n) c few further = plain (Empty n) refl few further
    by_effect (Enter ticket unit attr) c few further = plain (Enter ticket unit attr) refl few further
    by_effect (Enable ticket unit) c few further = plain (Enable ticket unit) refl few further
    by_effect (Leave ticket unit) c few further = plain (Leave ticket unit) refl few further
    by_effect (CloseConn cid) c few further = plain (CloseConn cid) refl few further
    by_effect CloseSession c few further = plain CloseSession refl few further
    by_effect (Ignore why) c few further = plain (Ignore why) refl few further
    by_effect (Send cid sn reply) c few further =
        let at : place_of w.doing.state.outbox cid ≡ Some c.0 = ap (λ (x : OutboxState). place_of x cid) same ∙ c.1.0 in
        let fits : count_all w.doing.state.replies.waiting + count_all u.replies < w.doing.state.replies.room = omega (arith, few, count-cons is_send (Send cid sn reply) es) in
        let kept = send_kept u w cid sn c.0 reply long at c.1.1 fits first in
        let more = send_count u w cid sn c.0 reply long at c.1.1 fits first in
        let long_kept = kept.0 in
        let room_kept = kept.1 in
        ap (walked false es) (put_send u w cid sn c.0 reply long at c.1.1 fits first)
        ∙ further (on_effect first (Send cid sn reply) w) (effect_outbox first (Send cid sn reply) w ∙ same) (long ∙ sym long_kept) (omega (arith, few, more, room_kept, count-cons is_send (Send cid sn reply) es))

-- ---- the one reply of an item

-- where that is sent so, each is
pub sent_each : (C : ℕ → Type 0) (es : List Effect) → length (filter_map reply_sent es) ≤ 1 → ((conn : ℕ) (reply : Reply) → first_of (filter_map reply_sent es) ≡ Some (conn, reply) → C conn) → EachOf (IsSentTo C) es
sent_each C [] few first = tt
sent_each C (Deliver r ∷ es) few first = (tt, sent_each C es few first)
sent_each C (Immediate r ∷ es) few first = (tt, sent_each C es few first)
sent_each C (Wait r ∷ es) few first = (tt, sent_each C es few first)
sent_each C (Void n ∷ es) few first = (tt, sent_each C es few first)
sent_each C (Empty n ∷ es) few first = (tt, sent_each C es few first)
sent_each C (Enter ticket unit attr ∷ es) few first = (tt, sent_each C es few first)
sent_each C (Enable ticket unit ∷ es) few first = (tt, sent_each C es few first)
sent_each C (Leave ticket unit ∷ es) few first = (tt, sent_each C es few first)
sent_each C (CloseConn cid ∷ es) few first = (tt, sent_each C es few first)
sent_each C (CloseSession ∷ es) few first = (tt, sent_each C es few first)
sent_each C (Ignore why ∷ es) few first = (tt, sent_each C es few first)
sent_each C (Send cid sn reply ∷ es) few first = (first cid reply refl, sent_each C es (omega (arith, few)) (λ conn other is. absurd (none (filter_map reply_sent es) few conn other is)))
  where
    none : (sends : List (ℕ × Reply)) → length ((cid, reply) ∷ sends) ≤ 1 → (conn : ℕ) (other : Reply) → first_of sends ≡ Some (conn, other) → ⊥
    none [] few' conn other is = let no : ⊥ = cc in no
    none (x ∷ sends) few' conn other is = omega (arith, few')

-- one that has a first one has one
pub some_first : {A : Type 0} (xs : List A) (x : A) → first_of xs ≡ Some x → 1 ≤ length xs
some_first [] x is = absurd cc
some_first (y ∷ xs) x is = omega arith

pub sends_counted : (es : List Effect) → count_by is_send es ≡ length (filter_map reply_sent es)
sends_counted [] = refl
sends_counted (Deliver r ∷ es) = sends_counted es
sends_counted (Immediate r ∷ es) = sends_counted es
sends_counted (Wait r ∷ es) = sends_counted es
sends_counted (Void n ∷ es) = sends_counted es
sends_counted (Empty n ∷ es) = sends_counted es
sends_counted (Enter ticket unit attr ∷ es) = sends_counted es
sends_counted (Enable ticket unit ∷ es) = sends_counted es
sends_counted (Leave ticket unit ∷ es) = sends_counted es
sends_counted (CloseConn cid ∷ es) = sends_counted es
sends_counted (CloseSession ∷ es) = sends_counted es
sends_counted (Ignore why ∷ es) = sends_counted es
sends_counted (Send cid sn reply ∷ es) = let rest = sends_counted es in omega (arith, rest, count-cons is_send (Send cid sn reply) es)

-- ---- what is touched

-- the connections on which an effect sends, or which it closes, by their places in the outbox
abbrev pub touched_in : OutboxState → Effect → List ℕ
touched_in o (Send cid sn reply) = as_list (place_of o cid)
touched_in o (CloseConn cid) = as_list (place_of o cid)
touched_in o CloseSession = counted_from 0 o.links
touched_in o _ = []

pub touched_as : (s : State) (e : Effect) → touched_by s e ≡ touched_in s.outbox e
touched_as s (Deliver r) = refl
touched_as s (Immediate r) = refl
touched_as s (Wait r) = refl
touched_as s (Void n) = refl
touched_as s (Empty n) = refl
touched_as s (Enter ticket unit attr) = refl
touched_as s (Enable ticket unit) = refl
touched_as s (Leave ticket unit) = refl
touched_as s (CloseConn cid) = refl
touched_as s CloseSession = refl
touched_as s (Ignore why) = refl
touched_as s (Send cid sn reply) = refl

pub in_first : {A : Type 0} (xs ys : List A) (x : A) → In x xs → In x (xs ++ ys)
in_first [] ys x there = absurd there
in_first (y ∷ xs) ys x there = ⊎_elim (λ here. inl here) (λ later. inr (in_first xs ys x later)) there

pub in_second : {A : Type 0} (xs ys : List A) (x : A) → In x ys → In x (xs ++ ys)
in_second [] ys x there = there
in_second (y ∷ xs) ys x there = inr (in_second xs ys x there)
