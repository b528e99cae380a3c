-- What is released and dropped: what stays as it was, and one of what waits after the other.
use Rattle.std.proofs.Common.{◌≡◌, ◌<◌, ◌≤◌, ℕ, zero, suc, ◌+◌, ◌∙◌, true, false, List, [], ◌∷◌, ◌++◌, length, drop, get_or, set, Option, Some, None, option_map, refl, sym, ap, if◌then◌else◌}
use Rattle.std.specs.List.{flat_map}
use Rattle.std.proofs.lemmas.List.{drop_more, get_or-set_same, set-get_or}
use Rattle.std.proofs.Math.ListN.{drop_of_length-le}
use Rattle.iscsi_rules.specs.declared.effect.Effect.{Effect}
use Rattle.iscsi_rules.specs.declared.effect.Effect.TheVariants.{Deliver, Immediate, Wait, Void, Empty, Enter, Enable, Leave, Send, CloseConn, CloseSession, Ignore}
use Rattle.iscsi_arrivals.specs.Counts.{Counts, new_counts}
use Rattle.iscsi_outbox_steps.specs.State.{State as OutboxState, link_at, place_of}
use Rattle.iscsi_outbox_steps.specs.Steps.{as_list, counted_from}
use Rattle.iscsi_requests.specs.declared.functions.WaitingFunction.{WaitingFunction}
use Rattle.iscsi_requests.specs.declared.replies.WaitingReply.{WaitingReply}
use Rattle.iscsi_requests.specs.Conns.{behind_oldest, of_conn, oldest, without_oldest}
use Rattle.iscsi_requests.specs.Cookies.{has_place}
use Rattle.iscsi_requests.specs.Functions.{WaitingFunctions, first_request as first_function, popped as function_popped}
use Rattle.iscsi_requests.specs.Replies.{WaitingReplies, first_request as first_reply, popped as reply_popped}
use Rattle.iscsi_requests.specs.Unwritten.{Unwritten, popped as handed_popped}
use Rattle.iscsi_ffi_steps.specs.State.{State}
use Rattle.iscsi_ffi_steps.specs.Steps.{drop_unwritten}
use Rattle.iscsi_ffi_steps.specs.Walk.{Doing, drop_each_function, drop_functions, drop_functions_on, drop_noted, drop_replies, drop_waiting, in_state, keeps, release, release_if, release_one, sweep, touched_by}

-- ---- what waits on a connection

module _ {X : Type 0} where
  none_is : (xs : List X) → oldest xs ≡ None → xs ≡ []
  none_is [] e = refl
  none_is (x ∷ xs) e = cc

  longer : (xs : List X) (x : X) → oldest xs ≡ Some x → length xs ≡ suc (length (behind_oldest xs))
  longer [] x e = cc
  longer (y ∷ xs) x e = refl

  mapped : (f : X → ℕ) (o : Option X) (n : ℕ) → option_map f o ≡ Some n → (x : X) × (o ≡ Some x)
  mapped f (Some x) n e = (x, refl)
  mapped f None n e = cc

  not_mapped : (f : X → ℕ) (o : Option X) → option_map f o ≡ None → o ≡ None
  not_mapped f (Some x) e = cc
  not_mapped f None e = refl

  -- none waits there: none goes
  pub none_goes : (conn : ℕ) (lists : List (List X)) → oldest (of_conn conn lists) ≡ None → without_oldest conn lists ≡ lists
  none_goes conn lists none =
      let empty : of_conn conn lists ≡ [] = none_is (of_conn conn lists) none in
      ap (λ (xs : List X). set lists conn (behind_oldest xs)) empty ∙ ap (λ (xs : List X). set lists conn xs) (sym empty) ∙ set-get_or lists conn []

  pub none_left : (conn : ℕ) (lists : List (List X)) → oldest (of_conn conn lists) ≡ None → length (of_conn conn lists) ≡ 0
  none_left conn lists none = ap (λ (xs : List X). length xs) (none_is (of_conn conn lists) none)

  -- the oldest one goes
  pub one_goes : (conn : ℕ) (x : X) (lists : List (List X)) → conn < length lists → oldest (of_conn conn lists) ≡ Some x
      → length (of_conn conn lists) ≡ suc (length (of_conn conn (without_oldest conn lists)))
  one_goes conn x lists within some =
      longer (of_conn conn lists) x some
      ∙ ap (λ (xs : List X). suc (length xs)) (sym (get_or-set_same lists conn (behind_oldest (of_conn conn lists)) [] within))

-- ---- a request has one use less

-- what stays as it was
pub record StaysAs (d d' : Doing) : Type 0 where
  pub outbox : d'.state.outbox ≡ d.state.outbox
  pub functions : d'.state.functions ≡ d.state.functions
  pub replies : d'.state.replies ≡ d.state.replies
  pub noted : d'.state.noted ≡ d.state.noted
  pub unwritten : d'.state.unwritten ≡ d.state.unwritten

pub released_stays : (request : ℕ) (d : Doing) → StaysAs d (release request d)
released_stays request d = elim (has_place request d.state.cookies) as (λ b. StaysAs d (if b then release_one request d else d)) [
  | true ↦ record { outbox = refl; functions = refl; replies = refl; noted = refl; unwritten = refl }
  | false ↦ record { outbox = refl; functions = refl; replies = refl; noted = refl; unwritten = refl }
]

pub released_if_stays : (request : Option ℕ) (d : Doing) → StaysAs d (release_if request d)
released_if_stays (Some request) d = released_stays request d
released_if_stays None d = record { outbox = refl; functions = refl; replies = refl; noted = refl; unwritten = refl }

-- ---- functions

abbrev pub without_function : ℕ → Doing → Doing
without_function conn d = in_state (λ s. record s { functions = function_popped conn s.functions }) d

pub less_function : (conn : ℕ) (v : WaitingFunctions) (d now : Doing) → d ≡ now → v ≡ function_popped conn d.state.functions → in_state (λ s. record s { functions = v }) d ≡ without_function conn now
less_function conn v d now same is = ap (λ (w : WaitingFunctions). in_state (λ s. record s { functions = w }) d) is ∙ ap (without_function conn) same

pub function_none : (conn : ℕ) (v : WaitingFunctions) → first_function conn v ≡ None → function_popped conn v ≡ v
function_none conn v none =
    ap (λ (lists : List (List WaitingFunction)). record v { waiting = lists })
    (none_goes conn v.waiting (not_mapped (λ (f : WaitingFunction). f.request) (oldest (of_conn conn v.waiting)) none))

pub functions_done : (conn : ℕ) (d : Doing) → first_function conn d.state.functions ≡ None → drop_functions_on conn d ≡ without_function conn d
functions_done conn d none =
    ap (λ n. drop_functions n conn d)
    (none_left conn d.state.functions.waiting (not_mapped (λ (f : WaitingFunction). f.request) (oldest (of_conn conn d.state.functions.waiting)) none))
    ∙ ap (λ (v : WaitingFunctions). in_state (λ s. record s { functions = v }) d) (sym (function_none conn d.state.functions none))

pub fewer_functions : (conn request : ℕ) (d : Doing) → conn < length d.state.functions.waiting → first_function conn d.state.functions ≡ Some request
    → length (of_conn conn d.state.functions.waiting) ≡ suc (length (of_conn conn (release request (without_function conn d)).state.functions.waiting))
fewer_functions conn request d within some =
    let one = mapped (λ (f : WaitingFunction). f.request) (oldest (of_conn conn d.state.functions.waiting)) request some in
    one_goes conn one.0 d.state.functions.waiting within one.1
    ∙ ap (λ (v : WaitingFunctions). suc (length (of_conn conn v.waiting))) (sym (released_stays request (without_function conn d)).functions)

pub functions_more : (conn request : ℕ) (d : Doing) → conn < length d.state.functions.waiting → first_function conn d.state.functions ≡ Some request
    → drop_functions_on conn (release request (without_function conn d)) ≡ drop_functions_on conn d
functions_more conn request d within some =
    let d' = release request (without_function conn d) in
    let left = length (of_conn conn d'.state.functions.waiting) in
    sym (
    ap (λ n. drop_functions n conn d) (fewer_functions conn request d within some)
    ∙ ap (λ (o : Option ℕ). drop_functions left conn (release_if o (without_function conn d))) some
    )

-- ---- replies

abbrev pub without_reply : ℕ → Doing → Doing
without_reply conn d = in_state (λ s. record s { replies = reply_popped conn s.replies }) d

pub less_reply : (conn : ℕ) (v : WaitingReplies) (d now : Doing) → d ≡ now → v ≡ reply_popped conn d.state.replies → in_state (λ s. record s { replies = v }) d ≡ without_reply conn now
less_reply conn v d now same is = ap (λ (w : WaitingReplies). in_state (λ s. record s { replies = w }) d) is ∙ ap (without_reply conn) same

abbrev pub drop_all_replies : ℕ → Doing → Doing
drop_all_replies conn d = drop_replies (length (of_conn conn d.state.replies.waiting)) conn d

pub reply_none : (conn : ℕ) (v : WaitingReplies) → first_reply conn v ≡ None → reply_popped conn v ≡ v
reply_none conn v none =
    ap (λ (lists : List (List WaitingReply)). record v { waiting = lists })
    (none_goes conn v.waiting (not_mapped (λ (r : WaitingReply). r.request) (oldest (of_conn conn v.waiting)) none))

pub replies_done : (conn : ℕ) (d : Doing) → first_reply conn d.state.replies ≡ None → drop_all_replies conn d ≡ without_reply conn d
replies_done conn d none =
    ap (λ n. drop_replies n conn d)
    (none_left conn d.state.replies.waiting (not_mapped (λ (r : WaitingReply). r.request) (oldest (of_conn conn d.state.replies.waiting)) none))
    ∙ ap (λ (v : WaitingReplies). in_state (λ s. record s { replies = v }) d) (sym (reply_none conn d.state.replies none))

pub fewer_replies : (conn request : ℕ) (d : Doing) → conn < length d.state.replies.waiting → first_reply conn d.state.replies ≡ Some request
    → length (of_conn conn d.state.replies.waiting) ≡ suc (length (of_conn conn (release request (without_reply conn d)).state.replies.waiting))
fewer_replies conn request d within some =
    let one = mapped (λ (r : WaitingReply). r.request) (oldest (of_conn conn d.state.replies.waiting)) request some in
    one_goes conn one.0 d.state.replies.waiting within one.1
    ∙ ap (λ (v : WaitingReplies). suc (length (of_conn conn v.waiting))) (sym (released_stays request (without_reply conn d)).replies)

pub replies_more : (conn request : ℕ) (d : Doing) → conn < length d.state.replies.waiting → first_reply conn d.state.replies ≡ Some request
    → drop_all_replies conn (release request (without_reply conn d)) ≡ drop_all_replies conn d
replies_more conn request d within some =
    let d' = release request (without_reply conn d) in
    let left = length (of_conn conn d'.state.replies.waiting) in
    sym (
    ap (λ n. drop_replies n conn d) (fewer_replies conn request d within some)
    ∙ ap (λ (o : Option ℕ). drop_replies left conn (release_if o (without_reply conn d))) some
    )

-- ---- own PDUs that are of no command

abbrev pub without_noted : ℕ → Doing → Doing
without_noted conn d = in_state (λ s. record s { noted = handed_popped conn s.noted }) d

pub less_noted : (conn : ℕ) (v : Unwritten) (d now : Doing) → d ≡ now → v ≡ handed_popped conn d.state.noted → in_state (λ s. record s { noted = v }) d ≡ without_noted conn now
less_noted conn v d now same is = ap (λ (w : Unwritten). in_state (λ s. record s { noted = w }) d) is ∙ ap (without_noted conn) same

abbrev pub drop_all_noted : ℕ → Doing → Doing
drop_all_noted conn d = drop_noted (length (of_conn conn d.state.noted.handed)) conn d

pub handed_none : (conn : ℕ) (v : Unwritten) → oldest (of_conn conn v.handed) ≡ None → handed_popped conn v ≡ v
handed_none conn v none = ap (λ (lists : List (List (Option ℕ))). record v { handed = lists }) (none_goes conn v.handed none)

pub noted_done : (conn : ℕ) (d : Doing) → oldest (of_conn conn d.state.noted.handed) ≡ None → drop_all_noted conn d ≡ without_noted conn d
noted_done conn d none =
    ap (λ n. drop_noted n conn d) (none_left conn d.state.noted.handed none)
    ∙ ap (λ (v : Unwritten). in_state (λ s. record s { noted = v }) d) (sym (handed_none conn d.state.noted none))

pub fewer_noted : (conn : ℕ) (request : Option ℕ) (d : Doing) → conn < length d.state.noted.handed → oldest (of_conn conn d.state.noted.handed) ≡ Some request
    → length (of_conn conn d.state.noted.handed) ≡ suc (length (of_conn conn (release_if request (without_noted conn d)).state.noted.handed))
fewer_noted conn request d within some =
    one_goes conn request d.state.noted.handed within some
    ∙ ap (λ (v : Unwritten). suc (length (of_conn conn v.handed))) (sym (released_if_stays request (without_noted conn d)).noted)

pub noted_more : (conn : ℕ) (request : Option ℕ) (d : Doing) → conn < length d.state.noted.handed → oldest (of_conn conn d.state.noted.handed) ≡ Some request
    → drop_all_noted conn (release_if request (without_noted conn d)) ≡ drop_all_noted conn d
noted_more conn request d within some =
    let d' = release_if request (without_noted conn d) in
    let left = length (of_conn conn d'.state.noted.handed) in
    sym (
    ap (λ n. drop_noted n conn d) (fewer_noted conn request d within some)
    ∙ ap (λ (o : Option (Option ℕ)). drop_noted left conn (elim o [ Some r ↦ release_if r (without_noted conn d) | None ↦ d ])) some
    )

-- ---- what isn't written

abbrev pub without_unwritten : ℕ → Doing → Doing
without_unwritten conn d = in_state (λ s. record s { unwritten = handed_popped conn s.unwritten }) d

pub less_unwritten : (conn : ℕ) (v : Unwritten) (d now : Doing) → d ≡ now → v ≡ handed_popped conn d.state.unwritten → in_state (λ s. record s { unwritten = v }) d ≡ without_unwritten conn now
less_unwritten conn v d now same is = ap (λ (w : Unwritten). in_state (λ s. record s { unwritten = w }) d) is ∙ ap (without_unwritten conn) same

abbrev pub drop_all_unwritten : ℕ → Doing → Doing
drop_all_unwritten conn d = drop_unwritten (length (of_conn conn d.state.unwritten.handed)) conn d

pub unwritten_done : (conn : ℕ) (d : Doing) → oldest (of_conn conn d.state.unwritten.handed) ≡ None → drop_all_unwritten conn d ≡ without_unwritten conn d
unwritten_done conn d none =
    ap (λ n. drop_unwritten n conn d) (none_left conn d.state.unwritten.handed none)
    ∙ ap (λ (v : Unwritten). in_state (λ s. record s { unwritten = v }) d) (sym (handed_none conn d.state.unwritten none))

pub fewer_unwritten : (conn : ℕ) (request : Option ℕ) (d : Doing) → conn < length d.state.unwritten.handed → oldest (of_conn conn d.state.unwritten.handed) ≡ Some request
    → length (of_conn conn d.state.unwritten.handed) ≡ suc (length (of_conn conn (release_if request (without_unwritten conn d)).state.unwritten.handed))
fewer_unwritten conn request d within some =
    one_goes conn request d.state.unwritten.handed within some
    ∙ ap (λ (v : Unwritten). suc (length (of_conn conn v.handed))) (sym (released_if_stays request (without_unwritten conn d)).unwritten)

pub unwritten_more : (conn : ℕ) (request : Option ℕ) (d : Doing) → conn < length d.state.unwritten.handed → oldest (of_conn conn d.state.unwritten.handed) ≡ Some request
    → drop_all_unwritten conn (release_if request (without_unwritten conn d)) ≡ drop_all_unwritten conn d
unwritten_more conn request d within some =
    let d' = release_if request (without_unwritten conn d) in
    let left = length (of_conn conn d'.state.unwritten.handed) in
    sym (
    ap (λ n. drop_unwritten n conn d) (fewer_unwritten conn request d within some)
    ∙ ap (λ (o : Option (Option ℕ)). drop_unwritten left conn (elim o [ Some r ↦ release_if r (without_unwritten conn d) | None ↦ d ])) some
    )

-- ---- the outbox stays

functions_keep : (n conn : ℕ) (d : Doing) → (drop_functions n conn d).state.outbox ≡ d.state.outbox
functions_keep zero conn d = refl
functions_keep (suc n) conn d =
    functions_keep n conn (release_if (first_function conn d.state.functions) (without_function conn d))
    ∙ (released_if_stays (first_function conn d.state.functions) (without_function conn d)).outbox

pub functions_outbox : (conn : ℕ) (d : Doing) → (drop_functions_on conn d).state.outbox ≡ d.state.outbox
functions_outbox conn d = functions_keep (length (of_conn conn d.state.functions.waiting)) conn d

replies_keep : (n conn : ℕ) (d : Doing) → (drop_replies n conn d).state.outbox ≡ d.state.outbox
replies_keep zero conn d = refl
replies_keep (suc n) conn d =
    replies_keep n conn (release_if (first_reply conn d.state.replies) (without_reply conn d))
    ∙ (released_if_stays (first_reply conn d.state.replies) (without_reply conn d)).outbox

pub replies_outbox : (conn : ℕ) (d : Doing) → (drop_all_replies conn d).state.outbox ≡ d.state.outbox
replies_outbox conn d = replies_keep (length (of_conn conn d.state.replies.waiting)) conn d

noted_one : (conn : ℕ) (o : Option (Option ℕ)) (d : Doing) → (elim o as (λ (x : Option (Option ℕ)). Doing) [ Some request ↦ release_if request (without_noted conn d) | None ↦ d ]).state.outbox ≡ d.state.outbox
noted_one conn (Some request) d = (released_if_stays request (without_noted conn d)).outbox
noted_one conn None d = refl

noted_keep : (n conn : ℕ) (d : Doing) → (drop_noted n conn d).state.outbox ≡ d.state.outbox
noted_keep zero conn d = refl
noted_keep (suc n) conn d =
    let o = oldest (of_conn conn d.state.noted.handed) in
    noted_keep n conn (elim o [ Some request ↦ release_if request (without_noted conn d) | None ↦ d ]) ∙ noted_one conn o d

pub waiting_outbox : (conn : ℕ) (d : Doing) → (drop_waiting conn d).state.outbox ≡ d.state.outbox
waiting_outbox conn d =
    let d' = drop_all_replies conn d in
    noted_keep (length (of_conn conn d'.state.noted.handed)) conn d' ∙ replies_outbox conn d

-- ---- one connection after the other

pub functions_step : (i : ℕ) (now new : Doing) (links : List Counts) → i < length links → new ≡ drop_functions_on i now
    → drop_each_function (counted_from (i + 1) (drop (i + 1) links)) new ≡ drop_each_function (counted_from i (drop i links)) now
functions_step i now new links within is =
    ap (λ d. drop_each_function (counted_from (i + 1) (drop (i + 1) links)) d) is
    ∙ sym (ap (λ ls. drop_each_function (counted_from i ls) now) (drop_more links i new_counts within))

pub functions_end : (i : ℕ) (d : Doing) (links : List Counts) → length links ≤ i → drop_each_function (counted_from i (drop i links)) d ≡ d
functions_end i d links past = ap (λ ls. drop_each_function (counted_from i ls) d) (drop_of_length-le links past)

pub sweep_step : (i : ℕ) (now new : Doing) (links : List Counts) → i < length links → new ≡ sweep (i ∷ []) now
    → sweep (counted_from (i + 1) (drop (i + 1) links)) new ≡ sweep (counted_from i (drop i links)) now
sweep_step i now new links within is =
    ap (λ d. sweep (counted_from (i + 1) (drop (i + 1) links)) d) is
    ∙ sym (ap (λ ls. sweep (counted_from i ls) now) (drop_more links i new_counts within))

pub sweep_end : (i : ℕ) (d : Doing) (links : List Counts) → length links ≤ i → sweep (counted_from i (drop i links)) d ≡ d
sweep_end i d links past = ap (λ ls. sweep (counted_from i ls) d) (drop_of_length-le links past)

-- ---- one effect after the other

pub sweep_outbox : (conns : List ℕ) (d : Doing) → (sweep conns d).state.outbox ≡ d.state.outbox
sweep_outbox [] d = refl
sweep_outbox (conn ∷ conns) d =
    sweep_outbox conns (if keeps (link_at d.state.outbox conn) then d else drop_waiting conn d)
    ∙ elim (keeps (link_at d.state.outbox conn)) as (λ b. (if b then d else drop_waiting conn d).state.outbox ≡ d.state.outbox) [ true ↦ refl | false ↦ waiting_outbox conn d ]

pub sweep-append : (xs ys : List ℕ) (d : Doing) → sweep (xs ++ ys) d ≡ sweep ys (sweep xs d)
sweep-append [] ys d = refl
sweep-append (conn ∷ xs) ys d = sweep-append xs ys (if keeps (link_at d.state.outbox conn) then d else drop_waiting conn d)

-- the connections are those of the outbox
pub touched_same : (s t : State) (effect : Effect) → s.outbox ≡ t.outbox → touched_by s effect ≡ touched_by t effect
touched_same s t (Send cid stat_sn reply) same = ap (λ (o : OutboxState). as_list (place_of o cid)) same
touched_same s t (CloseConn cid) same = ap (λ (o : OutboxState). as_list (place_of o cid)) same
touched_same s t CloseSession same = ap (λ (o : OutboxState). counted_from 0 o.links) same
touched_same s t (Deliver r) same = refl
touched_same s t (Immediate r) same = refl
touched_same s t (Wait r) same = refl
touched_same s t (Void number) same = refl
touched_same s t (Empty number) same = refl
touched_same s t (Enter ticket unit attr) same = refl
touched_same s t (Enable ticket unit) same = refl
touched_same s t (Leave ticket unit) same = refl
touched_same s t (Ignore why) same = refl

pub sweep_more : (i : ℕ) (first : State) (effects : List Effect) (e : Effect) (now new : Doing) → i < length effects → now.state.outbox ≡ first.outbox
    → new ≡ sweep (touched_by now.state (get_or effects i e)) now
    → sweep (flat_map (touched_by first) (drop (i + 1) effects)) new ≡ sweep (flat_map (touched_by first) (drop i effects)) now
sweep_more i first effects e now new within same is =
    let effect = get_or effects i e in
    let rest = flat_map (touched_by first) (drop (i + 1) effects) in
    ap (sweep rest) (is ∙ ap (λ conns. sweep conns now) (touched_same now.state first effect same))
    ∙ sym (sweep-append (touched_by first effect) rest now)
    ∙ sym (ap (λ es. sweep (flat_map (touched_by first) es) now) (drop_more effects i e within))

-- .. and so the connections
pub waiting_limits : (conn : ℕ) (d now : Doing) → now ≡ drop_waiting conn d → now.state.outbox.limits ≡ d.state.outbox.limits
waiting_limits conn d now is = ap (λ (e : Doing). e.state.outbox.limits) is ∙ ap (λ (o : OutboxState). o.limits) (waiting_outbox conn d)
