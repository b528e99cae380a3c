-- The commands in the order in which they entered, of which some are live.
use Rattle.std.proofs.Common.{◌≡◌, ◌≢◌, ℕ, zero, suc, ◌+◌, ◌-◌, ◌*◌, ◌<◌, ◌≤◌, ◌==◌, not, Bool, true, false, List, [], ◌∷◌, ◌++◌, length, map, filter, find, get_or, set, take, All, Some, None, refl, ap, sym, ◌∙◌, arith, eq-eqb, ne_eqb}
use Rattle.std.specs.List.{list_any}
use Rattle.std.proofs.lemmas.Bool.{false≢true, eqb-true}
use Rattle.std.proofs.lemmas.List.{get_or_past, get_or-map, get_or_default, get_or-take, length-take, length-map, map-append, take_at, get_or_append_left, get_or_push, get_or-set_same, get_or-set_other, length-set, length_push}
use Rattle.std.proofs.lemmas.List.Quantifiers.{all_pairs_push}
use Rattle.std.proofs.lemmas.List.Folds.{list_any_at}
use Rattle.std.proofs.lemmas.List.Elements.{filter-append}
use Rattle.std.proofs.lemmas.List.Kept.{AllPairs-filter}
use Rattle.std.proofs.lemmas.Bool.Decides.{nat_tests}
use Rattle.iscsi_slots.specs.Places.{AreAscending}
use Rattle.iscsi_slots.proofs.SortedLemmas.{not_greater, same_place}
use Rattle.iscsi_commands.specs.declared.live.Live.{Live}
use Rattle.iscsi_commands.specs.declared.entry.Entry.{Entry}
use Rattle.iscsi_commands.specs.Commands.{AreAscending as AreTicketsAscending, AreTagsApart, find_ticket, find_tag, without_ticket}
use Rattle.iscsi_commands.specs.Log.{BLANK, NOTHING, entry_at, tag_at, ticket_of, IsLiveAt, ended, live_in, rank, group_of, AreTagged, AreLogged}

pub group_below : (itt : ℕ) → group_of itt < 4096
unfolding group_of
group_below itt = omega arith

-- a live command stands within the log
pub live_within : (log : List Entry) (k : ℕ) → IsLiveAt log k → k < length log
live_within log k live = grind (arith, get_or_past log k NOTHING)

-- ---- where a live command stands once they have closed up

pub command_at : (log : List Entry) (k : ℕ) (d : Live) → IsLiveAt log k → (rank log k < length (live_in log)) × (get_or (live_in log) (rank log k) d ≡ (entry_at log k).command)
command_at [] k d live = absurd (false≢true live)
command_at (e ∷ log) zero d live = grind arith
command_at (e ∷ log) (suc k) d live = grind (arith, command_at log k d live)

rank_up : (log : List Entry) (j k : ℕ) → IsLiveAt log j → j < k → rank log j < rank log k
rank_up [] j k live l = absurd (false≢true live)
rank_up (e ∷ log) j zero live l = absurd (omega arith)
rank_up (e ∷ log) zero (suc k) live l = grind arith
rank_up (e ∷ log) (suc j) (suc k) live l = grind (arith, rank_up log j k live)

-- ---- the command that passes a test

pub find_live : (p : Live → Bool) (log : List Entry) (k : ℕ) → IsLiveAt log k → p (entry_at log k).command ≡ true → ((j : ℕ) → IsLiveAt log j → p (entry_at log j).command ≡ true → j ≡ k) → find p (live_in log) ≡ Some (entry_at log k).command
find_live p [] k live passes alone = absurd (false≢true live)
find_live p (e ∷ log) zero live passes alone = grind arith
find_live p (e ∷ log) (suc k) live passes alone =
    let rest = find_live p log k live passes (λ j is yes. let same = alone (suc j) is yes in omega (arith, same)) in
    grind (arith, alone 0)

pub find_none : (p : Live → Bool) (log : List Entry) → ((j : ℕ) → IsLiveAt log j → p (entry_at log j).command ≡ false) → find p (live_in log) ≡ None
find_none p [] none = refl
find_none p (e ∷ log) none = grind (arith, find_none p log (λ j is. none (suc j) is), none 0)

-- ---- a command leaves

none_stays : (p : Live → Bool) (log : List Entry) → ((j : ℕ) → IsLiveAt log j → p (entry_at log j).command ≡ false) → filter (λ l. not (p l)) (live_in log) ≡ live_in log
none_stays p [] none = refl
none_stays p (e ∷ log) none = grind (arith, none_stays p log (λ j is. none (suc j) is), none 0)

one_leaves : (p : Live → Bool) (log : List Entry) (k : ℕ) → IsLiveAt log k → p (entry_at log k).command ≡ true → ((j : ℕ) → IsLiveAt log j → p (entry_at log j).command ≡ true → j ≡ k)
    → live_in (set log k (ended (entry_at log k))) ≡ filter (λ l. not (p l)) (live_in log)
one_leaves p [] k live passes alone = absurd (false≢true live)
one_leaves p (e ∷ log) zero live passes alone =
    let rest = none_stays p log (λ j is. grind (arith, alone (suc j) is)) in
    grind arith
one_leaves p (e ∷ log) (suc k) live passes alone =
    let rest = one_leaves p log k live passes (λ j is yes. let same = alone (suc j) is yes in omega (arith, same)) in
    grind (arith, alone 0)

pub one_fewer : (log : List Entry) (k : ℕ) → IsLiveAt log k → length (live_in (set log k (ended (entry_at log k)))) + 1 ≡ length (live_in log)
one_fewer [] k live = absurd (false≢true live)
one_fewer (e ∷ log) zero live = grind arith
one_fewer (e ∷ log) (suc k) live = grind (arith, one_fewer log k live)

-- ---- a command enters

pub live_pushed : (log : List Entry) (command : Live) (slot : ℕ) → live_in (log ++ record { command = command; slot = slot; is_live = true } ∷ []) ≡ live_in log ++ command ∷ []
live_pushed log command slot = grind (arith, nat_tests, filter-append, map-append)

-- ---- the live ones alone

filter_again : {X : Type 0} (p : X → Bool) (xs : List X) → filter p (filter p xs) ≡ filter p xs
filter_again p [] = refl
filter_again p (x ∷ xs) = grind (arith, filter_again p xs)

pub live_again : (log : List Entry) → live_in (filter (λ e. e.is_live) log) ≡ live_in log
live_again log = ap (map (λ (x : Entry). x.command)) (filter_again (λ (x : Entry). x.is_live) log)

-- ---- tickets go up

pub kept_up : (log : List Entry) → AreAscending ticket_of log → AreAscending ticket_of (filter (λ e. e.is_live) log)
kept_up log up = AllPairs-filter (λ (x y : Entry). ticket_of x < ticket_of y) (λ (x : Entry). x.is_live) log up

pub tickets_up : (log : List Entry) → AreAscending ticket_of log → AreTicketsAscending (live_in log)
tickets_up log up i j d lt l = grind (arith, nat_tests, length-map, get_or-map, kept_up log up i j NOTHING lt)

-- ---- a ticket above all

-- a ticket above the last one is above all
pub newest : (log : List Entry) (n : ℕ) → AreAscending ticket_of log → (0 < length log → ticket_of (entry_at log (length log - 1)) < n) → All (λ e. ticket_of e < n) log
newest log n up last k d l = grind (arith, not_greater ticket_of log up k (length log - 1) d, last, get_or_default log (length log - 1) d NOTHING)

-- ---- the last ones go, none of which is live

-- where all live commands have lower tickets, one with a ticket that isn't lower isn't live
pub live_below : (log : List Entry) (n : ℕ) → All (λ l. l.ticket < n) (live_in log) → (k : ℕ) → IsLiveAt log k → ticket_of (entry_at log k) < n
live_below log n low k live = grind (arith, nat_tests, command_at log k BLANK live)

none_live : (log : List Entry) → ((k : ℕ) → IsLiveAt log k → ⊥) → live_in log ≡ []
none_live [] none = refl
none_live (e ∷ log) none = grind (arith, none_live log (λ k live. none (suc k) live), none 0)

pub live_taken : (log : List Entry) (n : ℕ) → ((k : ℕ) → IsLiveAt log k → k < n) → live_in (take n log) ≡ live_in log
live_taken [] zero below = refl
live_taken [] (suc n) below = refl
live_taken (e ∷ log) zero below = sym (none_live (e ∷ log) (λ k live. let l = below k live in absurd (omega (arith, l))))
live_taken (e ∷ log) (suc n) below = grind (arith, live_taken log n (λ k live. let l = below (suc k) live in omega (arith, l)))

pub taken_lower : (log : List Entry) (n ticket : ℕ) → ((k : ℕ) → k < n → ticket_of (entry_at log k) < ticket) → All (λ e. ticket_of e < ticket) (take n log)
taken_lower log n ticket below k d l = grind (arith, length-take n log, get_or-take n log k d, get_or_default log k d NOTHING, below k)

-- ---- the live ones closed up

pub kept_newest : (log : List Entry) (n : ℕ) → All (λ l. l.ticket < n) (live_in log) → All (λ e. ticket_of e < n) (filter (λ e. e.is_live) log)
kept_newest log n low k d l =
    let kept = filter (λ (x : Entry). x.is_live) log in
    grind (arith, length-map kept (λ (x : Entry). x.command), get_or-map (λ (x : Entry). x.command) kept k d BLANK l, low k BLANK)

pub live_fewer : (log : List Entry) → length (live_in log) ≤ length log
live_fewer [] = omega arith
live_fewer (e ∷ log) = grind (arith, live_fewer log)

-- ---- tags that a command which enters may have

-- no live command has the tag, where the test of all says so
pub unused_at : (log : List Entry) (itt : ℕ) → list_any (λ l. l.itt == itt) (live_in log) ≡ false → (j : ℕ) → IsLiveAt log j → tag_at log j ≢ itt
unused_at log itt none j live same = grind (arith, nat_tests, command_at log j BLANK live, list_any_at, eq-eqb)

-- two live commands with one tag are one
earlier_apart : (log : List Entry) → AreTagsApart (live_in log) → (j k : ℕ) → IsLiveAt log j → IsLiveAt log k → j < k → tag_at log j ≢ tag_at log k
earlier_apart log apart j k j_live k_live l same =
    grind (arith, nat_tests, command_at log j BLANK j_live, command_at log k BLANK k_live, rank_up log j k j_live l)

pub same_tagged : (log : List Entry) → AreTagsApart (live_in log) → (j k : ℕ) → IsLiveAt log j → IsLiveAt log k → tag_at log j ≡ tag_at log k → j ≡ k
same_tagged log apart j k j_live k_live same = grind (arith, earlier_apart log apart j k j_live k_live, earlier_apart log apart k j k_live j_live)

-- a command with a tag that no live one has enters
pub unused_pushed : (log : List Entry) (e : Entry) → list_any (λ l. l.itt == e.command.itt) (live_in log) ≡ false → (j : ℕ) → IsLiveAt (take (length log) (log ++ e ∷ [])) j → tag_at (log ++ e ∷ []) j ≢ tag_at (log ++ e ∷ []) (length log)
unused_pushed log e none j live same =
    grind (arith, take_at log (e ∷ []) (length log) refl, live_within, unused_at log e.command.itt none, get_or_append_left, get_or_push)

-- two places with the same ticket are one
pub same_ticket : (log : List Entry) → AreAscending ticket_of log → (j k : ℕ) → j < length log → k < length log → ticket_of (entry_at log j) ≡ ticket_of (entry_at log k) → j ≡ k
same_ticket log up j k lj lk same = same_place ticket_of log up j k NOTHING lj lk same

-- where a search for a ticket ends it stands, if it does
pub ticket_at : (log : List Entry) (n at : ℕ) → AreAscending ticket_of log → ((k : ℕ) → k < at → ticket_of (entry_at log k) < n) → ((k : ℕ) → at ≤ k → k < length log → n ≤ ticket_of (entry_at log k)) → (k : ℕ) → k < length log → ticket_of (entry_at log k) ≡ n → k ≡ at
ticket_at log n at up below above k l is = grind (arith, below k, above at, up at k NOTHING)

-- ---- what is found by ticket and by tag

pub found_ticket : (log : List Entry) (n k : ℕ) → AreAscending ticket_of log → IsLiveAt log k → ticket_of (entry_at log k) ≡ n → find_ticket n (live_in log) ≡ Some (entry_at log k).command
found_ticket log n k up live is = grind (arith, nat_tests, find_live, eq-eqb _ _ is, same_ticket, live_within, live_within log k live, eqb-true)

pub no_ticket : (log : List Entry) (n : ℕ) → ((k : ℕ) → IsLiveAt log k → ticket_of (entry_at log k) ≢ n) → find_ticket n (live_in log) ≡ None
no_ticket log n none = find_none (λ l. l.ticket == n) log (λ j live. ne_eqb _ _ (none j live))

pub found_tag : (log : List Entry) (n k : ℕ) → AreTagsApart (live_in log) → IsLiveAt log k → tag_at log k ≡ n → find_tag n (live_in log) ≡ Some (entry_at log k).command
found_tag log n k apart live is = grind (arith, nat_tests, find_live, eq-eqb _ _ is, same_tagged, eqb-true)

pub no_tag : (log : List Entry) (n : ℕ) → ((k : ℕ) → IsLiveAt log k → tag_at log k ≢ n) → find_tag n (live_in log) ≡ None
no_tag log n none = find_none (λ l. l.itt == n) log (λ j live. ne_eqb _ _ (none j live))

pub ticket_leaves : (log : List Entry) (n k : ℕ) → AreAscending ticket_of log → IsLiveAt log k → ticket_of (entry_at log k) ≡ n → live_in (set log k (ended (entry_at log k))) ≡ without_ticket n (live_in log)
ticket_leaves log n k up live is = one_leaves (λ l. l.ticket == n) log k live (eq-eqb _ _ is)
    (λ j j_live same. same_ticket log up j k (live_within log j j_live) (live_within log k live) (eqb-true _ _ same ∙ sym is))

pub no_ticket_leaves : (log : List Entry) (n : ℕ) → ((k : ℕ) → IsLiveAt log k → ticket_of (entry_at log k) ≢ n) → without_ticket n (live_in log) ≡ live_in log
no_ticket_leaves log n none = none_stays (λ l. l.ticket == n) log (λ j live. ne_eqb _ _ (none j live))

-- ---- what is kept of the log, as one leaves

set_up : (log : List Entry) (k : ℕ) → AreAscending ticket_of log → k < length log → AreAscending ticket_of (set log k (ended (entry_at log k)))
set_up log k up within i j d lt l = grind (arith, nat_tests, length-set, get_or-set_same, get_or-set_other, get_or_default log k NOTHING d within)

pub logged_without : {log : List Entry} {capacity live room hints : ℕ} {places : List ℕ} {crowded : List Bool} {others : List ℕ} {others_room : ℕ} (logged : AreLogged log capacity live room hints places crowded others others_room) (n k : ℕ) → IsLiveAt log k → ticket_of (entry_at log k) ≡ n
    → {places_after : List ℕ} {crowded_after : List Bool} {others_after : List ℕ} → AreTagged (set log k (ended (entry_at log k))) places_after crowded_after others_after → AreLogged (set log k (ended (entry_at log k))) capacity (live - 1) room hints places_after crowded_after others_after others_room
logged_without {log} logged n k is_live is tagged =
    let apart = AllPairs-filter (λ (a b : Live). a.itt ≢ b.itt) (λ l. not (l.ticket == n)) (live_in log) logged.apart in
    grind (arith, ticket_leaves log n k logged.ascending is_live is, one_fewer log k is_live, set_up, live_within, length-set)

-- ---- and as one enters

pub logged_with : (log : List Entry) (command : Live) (slot : ℕ) {capacity live room hints : ℕ} {places : List ℕ} {crowded : List Bool} {others : List ℕ} {others_room : ℕ} → AreAscending ticket_of log → AreTagsApart (live_in log) → live ≡ length (live_in log) → live < room → length log < 2 * live + 64 → 2 * room + 64 ≤ capacity → room ≤ 2016 → hints ≡ 4096 → others_room ≡ room
    → All (λ e. ticket_of e < command.ticket) log → list_any (λ l. l.itt == command.itt) (live_in log) ≡ false → AreTagged (log ++ record { command = command; slot = slot; is_live = true } ∷ []) places crowded others → AreLogged (log ++ record { command = command; slot = slot; is_live = true } ∷ []) capacity (live + 1) room hints places crowded others others_room
logged_with log command slot {live = live} {room = room} up apart counted few short has_room small hinted for_others newest unused tagged =
    let e : Entry = record { command = command; slot = slot; is_live = true } in
    let apart_now = all_pairs_push (λ (a b : Live). a.itt ≢ b.itt) (live_in log) command apart (λ k d l same. grind (arith, nat_tests, list_any_at (λ c. c.itt == command.itt) (live_in log) k d l)) in
    let up_now = all_pairs_push (λ (x y : Entry). ticket_of x < ticket_of y) log e up newest in
    grind (arith, live_pushed log command slot, length_push (live_in log) command, length_push log e)

pub none_logged : (capacity room hints others_room : ℕ) → 2 * room + 64 ≤ capacity → room ≤ 2016 → hints ≡ 4096 → others_room ≡ room → {places : List ℕ} {crowded : List Bool} {others : List ℕ} → AreTagged [] places crowded others → AreLogged [] capacity 0 room hints places crowded others others_room
none_logged capacity room hints others_room has_room small hinted for_others tagged = grind arith
