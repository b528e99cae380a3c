-- What waits on a connection, and isn't written there, is dropped: the uses end one after the other.
use Rattle.std.proofs.Common.{◌≡◌, ℕ, zero, suc, ◌+◌, ◌<◌, ◌==◌, cond, Bool, true, false, List, [], ◌∷◌, ◌++◌, length, map, count_by, set, Option, Some, None, refl, ap, sym, ◌∙◌, arith}
use Rattle.std.proofs.lemmas.List.{set-get_or, get_or-set_same}
use Rattle.iscsi_rules.proofs.general.CountLemmas.{count-cons}
use Rattle.iscsi_requests.specs.Conns.{behind_oldest, of_conn, oldest}
use Rattle.iscsi_requests.specs.Cookies.{has_place}
use Rattle.iscsi_requests.specs.Replies.{WaitingReplies, first_request as first_reply, popped as reply_popped, request_of}
use Rattle.iscsi_requests.specs.Unwritten.{Unwritten, popped}
use Rattle.iscsi_requests.specs.declared.replies.WaitingReply.{WaitingReply}
use Rattle.iscsi_ffi_steps.specs.State.{State}
use Rattle.iscsi_ffi_steps.specs.Steps.{drop_unwritten}
use Rattle.iscsi_ffi_steps.specs.Walk.{Doing, drop_noted, drop_replies, drop_waiting, release_if, release_one}
use Rattle.iscsi_ffi_law.specs.Uses.{is_place}
use Rattle.iscsi_ffi_law.proofs.requests.Releases.{endings, releases}

-- ---- what a release leaves

-- the parts that it doesn't touch
abbrev pub put_parts : WaitingReplies → Unwritten → Unwritten → Doing → Doing
put_parts replies noted unwritten d = record d { state = record d.state { replies = replies; noted = noted; unwritten = unwritten } }

release_put : (x : Option ℕ) (replies : WaitingReplies) (noted unwritten : Unwritten) (d : Doing) → release_if x (put_parts replies noted unwritten d) ≡ put_parts replies noted unwritten (release_if x d)
release_put None replies noted unwritten d = refl
release_put (Some q) replies noted unwritten d = by_place (has_place q d.state.cookies)
  where
    by_place : (v : Bool) → cond v (release_one q (put_parts replies noted unwritten d)) (put_parts replies noted unwritten d) ≡ put_parts replies noted unwritten (cond v (release_one q d) d)
    by_place true = refl
    by_place false = refl

release_parts : (x : Option ℕ) (d : Doing) → release_if x d ≡ put_parts d.state.replies d.state.noted d.state.unwritten (release_if x d)
release_parts x d = release_put x d.state.replies d.state.noted d.state.unwritten d

pub releases_put : (xs : List (Option ℕ)) (replies : WaitingReplies) (noted unwritten : Unwritten) (d : Doing) → releases xs (put_parts replies noted unwritten d) ≡ put_parts replies noted unwritten (releases xs d)
releases_put [] replies noted unwritten d = refl
releases_put (x ∷ xs) replies noted unwritten d = ap (releases xs) (release_put x replies noted unwritten d) ∙ releases_put xs replies noted unwritten (release_if x d)

pub releases_append : (xs ys : List (Option ℕ)) (d : Doing) → releases (xs ++ ys) d ≡ releases ys (releases xs d)
releases_append [] ys d = refl
releases_append (x ∷ xs) ys d = releases_append xs ys (release_if x d)

-- ---- one list after the other

module _ (p : ℕ) where
  abbrev pub without_replies : WaitingReplies → WaitingReplies
  without_replies v = record v { waiting = set v.waiting p [] }

  abbrev pub without_handed : Unwritten → Unwritten
  without_handed v = record v { handed = set v.handed p [] }

  set_twice : {X : Type 0} (lists : List (List X)) (k : ℕ) (xs : List X) → set (set lists k xs) k [] ≡ set lists k []
  set_twice [] k xs = refl
  set_twice (ys ∷ lists) zero xs = refl
  set_twice (ys ∷ lists) (suc k) xs = ap (λ ls. ys ∷ ls) (set_twice lists k xs)

  set_nothing : {X : Type 0} (lists : List (List X)) → of_conn p lists ≡ [] → lists ≡ set lists p []
  set_nothing lists none = sym (ap (set lists p) (sym none) ∙ set-get_or lists p [])

  length_kept : {X : Type 0} (lists : List (List X)) (k : ℕ) (xs : List X) → length (set lists k xs) ≡ length lists
  length_kept [] k xs = refl
  length_kept (ys ∷ lists) zero xs = refl
  length_kept (ys ∷ lists) (suc k) xs = ap suc (length_kept lists k xs)

  pub replies_dropped : (rs : List WaitingReply) (d : Doing) → p < length d.state.replies.waiting → of_conn p d.state.replies.waiting ≡ rs
      → drop_replies (length rs) p d ≡ releases (map (λ (x : WaitingReply). Some x.request) rs) (put_parts (without_replies d.state.replies) d.state.noted d.state.unwritten d)
  replies_dropped [] d within is = ap (λ ls. put_parts (record d.state.replies { waiting = ls }) d.state.noted d.state.unwritten d) (set_nothing d.state.replies.waiting is)
  replies_dropped (x ∷ rs) d within is =
      let popped_is : reply_popped p d.state.replies ≡ record d.state.replies { waiting = set d.state.replies.waiting p rs } = ap (λ ys. record d.state.replies { waiting = set d.state.replies.waiting p (behind_oldest ys) }) is in
      let here : Doing = put_parts (reply_popped p d.state.replies) d.state.noted d.state.unwritten d in
      let first : release_if (first_reply p d.state.replies) (put_parts (reply_popped p d.state.replies) d.state.noted d.state.unwritten d)
      ≡ put_parts (reply_popped p d.state.replies) d.state.noted d.state.unwritten (release_if (Some x.request) d)
      = ap (λ ys. release_if (request_of_first ys) (put_parts (reply_popped p d.state.replies) d.state.noted d.state.unwritten d)) is ∙ release_put (Some x.request) (reply_popped p d.state.replies) d.state.noted d.state.unwritten d in
      let left : of_conn p (reply_popped p d.state.replies).waiting ≡ rs = get_or-set_same d.state.replies.waiting p (behind_oldest (of_conn p d.state.replies.waiting)) [] within ∙ ap behind_oldest is in
      ap (drop_replies (length rs) p) first
      ∙ replies_dropped rs (put_parts (reply_popped p d.state.replies) d.state.noted d.state.unwritten (release_if (Some x.request) d)) (omega (arith, within, length_kept d.state.replies.waiting p (behind_oldest (of_conn p d.state.replies.waiting)))) left
      ∙ ap (λ ls. releases (map (λ (y : WaitingReply). Some y.request) rs) (put_parts (record d.state.replies { waiting = ls }) d.state.noted d.state.unwritten (release_if (Some x.request) d)))
      (set_twice d.state.replies.waiting p (behind_oldest (of_conn p d.state.replies.waiting)))
      ∙ ap (releases (map (λ (y : WaitingReply). Some y.request) rs)) (sym (release_put (Some x.request) (without_replies d.state.replies) d.state.noted d.state.unwritten d))
    where
      request_of_first : List WaitingReply → Option ℕ
      request_of_first ys = request_of (oldest ys)

  pub noted_dropped : (xs : List (Option ℕ)) (d : Doing) → p < length d.state.noted.handed → of_conn p d.state.noted.handed ≡ xs
      → drop_noted (length xs) p d ≡ releases xs (put_parts d.state.replies (without_handed d.state.noted) d.state.unwritten d)
  noted_dropped [] d within is = ap (λ ls. put_parts d.state.replies (record d.state.noted { handed = ls }) d.state.unwritten d) (set_nothing d.state.noted.handed is)
  noted_dropped (x ∷ xs) d within is =
      let first : elim (oldest (of_conn p d.state.noted.handed)) [ Some request ↦ release_if request (put_parts d.state.replies (popped p d.state.noted) d.state.unwritten d) | None ↦ d ]
      ≡ put_parts d.state.replies (popped p d.state.noted) d.state.unwritten (release_if x d)
      = ap (λ (ys : List (Option ℕ)). elim (oldest ys) [ Some request ↦ release_if request (put_parts d.state.replies (popped p d.state.noted) d.state.unwritten d) | None ↦ d ]) is ∙ release_put x d.state.replies (popped p d.state.noted) d.state.unwritten d in
      let left : of_conn p (popped p d.state.noted).handed ≡ xs = get_or-set_same d.state.noted.handed p (behind_oldest (of_conn p d.state.noted.handed)) [] within ∙ ap behind_oldest is in
      ap (drop_noted (length xs) p) first
      ∙ noted_dropped xs (put_parts d.state.replies (popped p d.state.noted) d.state.unwritten (release_if x d)) (omega (arith, within, length_kept d.state.noted.handed p (behind_oldest (of_conn p d.state.noted.handed)))) left
      ∙ ap (λ ls. releases xs (put_parts d.state.replies (record d.state.noted { handed = ls }) d.state.unwritten (release_if x d))) (set_twice d.state.noted.handed p (behind_oldest (of_conn p d.state.noted.handed)))
      ∙ ap (releases xs) (sym (release_put x d.state.replies (without_handed d.state.noted) d.state.unwritten d))

  pub unwritten_dropped : (xs : List (Option ℕ)) (d : Doing) → p < length d.state.unwritten.handed → of_conn p d.state.unwritten.handed ≡ xs
      → drop_unwritten (length xs) p d ≡ releases xs (put_parts d.state.replies d.state.noted (without_handed d.state.unwritten) d)
  unwritten_dropped [] d within is = ap (λ ls. put_parts d.state.replies d.state.noted (record d.state.unwritten { handed = ls }) d) (set_nothing d.state.unwritten.handed is)
  unwritten_dropped (x ∷ xs) d within is =
      let first : elim (oldest (of_conn p d.state.unwritten.handed)) [ Some request ↦ release_if request (put_parts d.state.replies d.state.noted (popped p d.state.unwritten) d) | None ↦ d ]
      ≡ put_parts d.state.replies d.state.noted (popped p d.state.unwritten) (release_if x d)
      = ap (λ (ys : List (Option ℕ)). elim (oldest ys) [ Some request ↦ release_if request (put_parts d.state.replies d.state.noted (popped p d.state.unwritten) d) | None ↦ d ]) is ∙ release_put x d.state.replies d.state.noted (popped p d.state.unwritten) d in
      let left : of_conn p (popped p d.state.unwritten).handed ≡ xs = get_or-set_same d.state.unwritten.handed p (behind_oldest (of_conn p d.state.unwritten.handed)) [] within ∙ ap behind_oldest is in
      ap (drop_unwritten (length xs) p) first
      ∙ unwritten_dropped xs (put_parts d.state.replies d.state.noted (popped p d.state.unwritten) (release_if x d)) (omega (arith, within, length_kept d.state.unwritten.handed p (behind_oldest (of_conn p d.state.unwritten.handed)))) left
      ∙ ap (λ ls. releases xs (put_parts d.state.replies d.state.noted (record d.state.unwritten { handed = ls }) (release_if x d))) (set_twice d.state.unwritten.handed p (behind_oldest (of_conn p d.state.unwritten.handed)))
      ∙ ap (releases xs) (sym (release_put x d.state.replies d.state.noted (without_handed d.state.unwritten) d))

  -- what waits
  pub waiting_dropped : (d : Doing) → p < length d.state.replies.waiting → p < length d.state.noted.handed
      → drop_waiting p d ≡ releases (map (λ (x : WaitingReply). Some x.request) (of_conn p d.state.replies.waiting) ++ of_conn p d.state.noted.handed) (put_parts (without_replies d.state.replies) (without_handed d.state.noted) d.state.unwritten d)
  waiting_dropped d in_replies in_noted =
      let rs : List (Option ℕ) = map (λ (x : WaitingReply). Some x.request) (of_conn p d.state.replies.waiting) in
      ap (λ (e : Doing). drop_noted (length (of_conn p e.state.noted.handed)) p e) (replies_dropped (of_conn p d.state.replies.waiting) d in_replies refl ∙ releases_put rs (without_replies d.state.replies) d.state.noted d.state.unwritten d)
      ∙ noted_dropped (of_conn p d.state.noted.handed) (put_parts (without_replies d.state.replies) d.state.noted d.state.unwritten (releases rs d)) in_noted refl
      ∙ ap (releases (of_conn p d.state.noted.handed)) (sym (releases_put rs (without_replies d.state.replies) (without_handed d.state.noted) d.state.unwritten d))
      ∙ sym (releases_append rs (of_conn p d.state.noted.handed) (put_parts (without_replies d.state.replies) (without_handed d.state.noted) d.state.unwritten d))

  -- all of it
  abbrev pub all_of : State → List (Option ℕ)
  all_of s = map (λ (x : WaitingReply). Some x.request) (of_conn p s.replies.waiting) ++ (of_conn p s.noted.handed ++ of_conn p s.unwritten.handed)

  pub all_dropped : (d : Doing) → p < length d.state.replies.waiting → p < length d.state.noted.handed → p < length d.state.unwritten.handed
      → (let d' = drop_waiting p d in drop_unwritten (length (of_conn p d'.state.unwritten.handed)) p d')
      ≡ releases (all_of d.state) (put_parts (without_replies d.state.replies) (without_handed d.state.noted) (without_handed d.state.unwritten) d)
  all_dropped d in_replies in_noted in_unwritten =
      let rs : List (Option ℕ) = map (λ (x : WaitingReply). Some x.request) (of_conn p d.state.replies.waiting) in
      ap (λ (e : Doing). drop_all (drop_noted (length (of_conn p e.state.noted.handed)) p e)) (replies_dropped (of_conn p d.state.replies.waiting) d in_replies refl ∙ releases_put rs (without_replies d.state.replies) d.state.noted d.state.unwritten d)
      ∙ ap drop_all (noted_dropped (of_conn p d.state.noted.handed) (put_parts (without_replies d.state.replies) d.state.noted d.state.unwritten (releases rs d)) in_noted refl
      ∙ releases_put (of_conn p d.state.noted.handed) (without_replies d.state.replies) (without_handed d.state.noted) d.state.unwritten (releases rs d))
      ∙ unwritten_dropped (of_conn p d.state.unwritten.handed) (put_parts (without_replies d.state.replies) (without_handed d.state.noted) d.state.unwritten (releases (of_conn p d.state.noted.handed) (releases rs d))) in_unwritten refl
      ∙ releases_put (of_conn p d.state.unwritten.handed) (without_replies d.state.replies) (without_handed d.state.noted) (without_handed d.state.unwritten) (releases (of_conn p d.state.noted.handed) (releases rs d))
      ∙ ap (put_parts (without_replies d.state.replies) (without_handed d.state.noted) (without_handed d.state.unwritten))
      (sym (releases_append rs (of_conn p d.state.noted.handed ++ of_conn p d.state.unwritten.handed) d ∙ releases_append (of_conn p d.state.noted.handed) (of_conn p d.state.unwritten.handed) (releases rs d)))
      ∙ sym (releases_put (rs ++ (of_conn p d.state.noted.handed ++ of_conn p d.state.unwritten.handed)) (without_replies d.state.replies) (without_handed d.state.noted) (without_handed d.state.unwritten) d)
    where
      drop_all : Doing → Doing
      drop_all e = drop_unwritten (length (of_conn p e.state.unwritten.handed)) p e

-- ---- how many end

pub endings_append : (xs ys : List (Option ℕ)) (place : ℕ) → endings (xs ++ ys) place ≡ endings xs place + endings ys place
endings_append [] ys place = omega arith
endings_append (x ∷ xs) ys place = let rest = endings_append xs ys place in omega (arith, rest)

pub endings_places : (xs : List (Option ℕ)) (place : ℕ) → endings xs place ≡ count_by (is_place place) xs
endings_places [] place = refl
endings_places (None ∷ xs) place = let rest = endings_places xs place in omega (arith, rest, count-cons (is_place place) None xs)
endings_places (Some q ∷ xs) place = let rest = endings_places xs place in omega (arith, rest, count-cons (is_place place) (Some q) xs)

pub endings_replies : (rs : List WaitingReply) (place : ℕ) → endings (map (λ (x : WaitingReply). Some x.request) rs) place ≡ count_by (λ (x : WaitingReply). x.request == place) rs
endings_replies [] place = refl
endings_replies (x ∷ rs) place = let rest = endings_replies rs place in omega (arith, rest, count-cons (λ (y : WaitingReply). y.request == place) x rs)
