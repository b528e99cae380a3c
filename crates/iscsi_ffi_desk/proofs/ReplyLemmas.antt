-- Replies that wait: none has a log place above the last one.
use Rattle.std.proofs.Common.{◌≡◌, ℕ, ◌+◌, ◌-◌, ◌^◌, ◌<◌, ◌≤◌, not, cond, false, List, [], ◌∷◌, ◌++◌, map, find, Option, Some, None, refl, sym, ap, ◌∙◌, All, arith}
use Rattle.std.specs.Prelude.{IfSome}
use Rattle.std.specs.Option.{option_or}
use Rattle.std.proofs.lemmas.Bool.{ne_eqb}
use Rattle.std.proofs.lemmas.List.Elements.{All-from_get_or, All-head, All-tail}
use Rattle.std.proofs.lemmas.List.Folds.{find-append}
use Rattle.iscsi_requests.specs.declared.replies.WaitingReply.{WaitingReply}
use Rattle.iscsi_requests.specs.Replies.{AreKnown, WaitingReplies, all_of, find_log_place, has_log_place, request_of, taken, without_log_place}

abbrev Low : ℕ → WaitingReply → Type 0
Low last r = r.log_place ≤ last

differs : (n last : ℕ) (r : WaitingReply) → last < n → r.log_place ≤ last → has_log_place n r ≡ false
differs n last r late low = ne_eqb r.log_place n (λ e. omega (arith, e, late, low))

none_found : (n last : ℕ) (rs : List WaitingReply) → last < n → All (Low last) rs → find (has_log_place n) rs ≡ None
none_found n last [] late low = refl
none_found n last (r ∷ rs) late low =
    ap (λ b. cond b (Some r) (find (has_log_place n) rs)) (differs n last r late (All-head (Low last) r rs low))
    ∙ none_found n last rs late (All-tail (Low last) r rs low)

none_goes : (n last : ℕ) (rs : List WaitingReply) → last < n → All (Low last) rs → without_log_place n rs ≡ rs
none_goes n last [] late low = refl
none_goes n last (r ∷ rs) late low =
    ap (λ b. cond (not b) (r ∷ without_log_place n rs) (without_log_place n rs)) (differs n last r late (All-head (Low last) r rs low))
    ∙ ap (λ xs. r ∷ xs) (none_goes n last rs late (All-tail (Low last) r rs low))

abbrev AllLow : ℕ → List WaitingReply → Type 0
AllLow last rs = All (Low last) rs

none_anywhere : (n last : ℕ) (lists : List (List WaitingReply)) → last < n → All (AllLow last) lists → find (has_log_place n) (all_of lists) ≡ None
none_anywhere n last [] late low = refl
none_anywhere n last (rs ∷ lists) late low =
    find-append (has_log_place n) rs (all_of lists)
    ∙ ap (λ (o : Option WaitingReply). option_or o (find (has_log_place n) (all_of lists))) (none_found n last rs late (All-head (AllLow last) rs lists low))
    ∙ none_anywhere n last lists late (All-tail (AllLow last) rs lists low)

all_stay : (n last : ℕ) (lists : List (List WaitingReply)) → last < n → All (AllLow last) lists → map (without_log_place n) lists ≡ lists
all_stay n last [] late low = refl
all_stay n last (rs ∷ lists) late low =
    ap (λ xs. xs ∷ map (without_log_place n) lists) (none_goes n last rs late (All-head (AllLow last) rs lists low))
    ∙ ap (λ xs. rs ∷ xs) (all_stay n last lists late (All-tail (AllLow last) rs lists low))

all_low : (v : WaitingReplies) (last : ℕ) → AreKnown v → v.last ≡ Some last → All (AllLow last) v.waiting
all_low v last k is = All-from_get_or (AllLow last) v.waiting [] (λ i l. k.newest i last is)

none_late : (n last : ℕ) (v : WaitingReplies) → AreKnown v → v.last ≡ Some last → last < n → find_log_place n v ≡ None
none_late n last v k is late = ap request_of (none_anywhere n last v.waiting late (all_low v last k is))

stays_late : (n last : ℕ) (v : WaitingReplies) → AreKnown v → v.last ≡ Some last → last < n → v ≡ taken n v
stays_late n last v k is late = ap (λ (lists : List (List WaitingReply)). record v { waiting = lists }) (sym (all_stay n last v.waiting late (all_low v last k is)))

-- none ever entered

empty_everywhere : (v : WaitingReplies) → AreKnown v → v.last ≡ None → All (λ (rs : List WaitingReply). rs ≡ []) v.waiting
empty_everywhere v k is = All-from_get_or (λ (rs : List WaitingReply). rs ≡ []) v.waiting [] (λ i l. k.none i is)

none_of_none : (n : ℕ) (lists : List (List WaitingReply)) → All (λ (rs : List WaitingReply). rs ≡ []) lists → find (has_log_place n) (all_of lists) ≡ None
none_of_none n [] e = refl
none_of_none n (rs ∷ lists) e =
    ap (λ (xs : List WaitingReply). find (has_log_place n) (xs ++ all_of lists)) (All-head (λ (xs : List WaitingReply). xs ≡ []) rs lists e)
    ∙ none_of_none n lists (All-tail (λ (xs : List WaitingReply). xs ≡ []) rs lists e)

same_of_none : (n : ℕ) (lists : List (List WaitingReply)) → All (λ (rs : List WaitingReply). rs ≡ []) lists → map (without_log_place n) lists ≡ lists
same_of_none n [] e = refl
same_of_none n (rs ∷ lists) e =
    ap (λ xs. without_log_place n rs ∷ xs) (same_of_none n lists (All-tail (λ (xs : List WaitingReply). xs ≡ []) rs lists e))
    ∙ ap (λ xs. xs ∷ lists) (ap (without_log_place n) (All-head (λ (xs : List WaitingReply). xs ≡ []) rs lists e) ∙ sym (All-head (λ (xs : List WaitingReply). xs ≡ []) rs lists e))

none_first : (n : ℕ) (v : WaitingReplies) → AreKnown v → v.last ≡ None → find_log_place n v ≡ None
none_first n v k is = ap request_of (none_of_none n v.waiting (empty_everywhere v k is))

stays_first : (n : ℕ) (v : WaitingReplies) → AreKnown v → v.last ≡ None → v ≡ taken n v
stays_first n v k is = ap (λ (lists : List (List WaitingReply)). record v { waiting = lists }) (sym (same_of_none n v.waiting (empty_everywhere v k is)))

-- none has the last log place that there is: the one behind each is a number, too

pub none_at_end : (n : ℕ) (v : WaitingReplies) (o : Option ℕ) → AreKnown v → o ≡ v.last → IfSome o (λ last. last + 1 < 2 ^ 64) → 2 ^ 64 - 1 ≤ n → find_log_place n v ≡ None
none_at_end n v (Some last) k is short far = none_late n last v k (sym is) (omega (arith, short, far))
none_at_end n v None k is short far = none_first n v k (sym is)

pub stays_at_end : (n : ℕ) (v : WaitingReplies) (o : Option ℕ) → AreKnown v → o ≡ v.last → IfSome o (λ last. last + 1 < 2 ^ 64) → 2 ^ 64 - 1 ≤ n → v ≡ taken n v
stays_at_end n v (Some last) k is short far = stays_late n last v k (sym is) (omega (arith, short, far))
stays_at_end n v None k is short far = stays_first n v k (sym is)
