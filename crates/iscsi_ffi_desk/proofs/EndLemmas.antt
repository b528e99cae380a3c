-- At the end of a call: connection by connection.
use Rattle.std.proofs.Common.{◌≡◌, ◌<◌, ◌≤◌, ℕ, ◌+◌, ◌&&◌, not, Bool, true, false, List, [], ◌∷◌, length, drop, get_or, set, refl, sym, ap, ◌∙◌, arith, if◌then◌else◌}
use Rattle.std.proofs.lemmas.List.{drop_more}
use Rattle.std.proofs.Math.ListN.{drop_of_length-le}
use Rattle.iscsi_outbox_steps.specs.declared.given.Given.{Given}
use Rattle.iscsi_outbox_steps.specs.declared.given.Given.TheVariants.{Hands, Nothing, IsOver}
use Rattle.iscsi_outbox_steps.specs.Steps.{given}
use Rattle.iscsi_outbox.specs.rules.Words.{gives_no_more as no_more_goes, has_closed}
use Rattle.iscsi_outbox.proofs.AskLemmas.{none_over}
use Rattle.iscsi_ffi_rules.specs.declared.action.Action.TheVariants.{Ready, Close}
use Rattle.iscsi_ffi_steps.specs.Walk.{Doing, in_state, tell}
use Rattle.iscsi_ffi_steps.specs.Steps.{close_each, close_on, gives, gives_no_more, tell_each, tell_on}
use Rattle.iscsi_ffi_desk.specs.Awake.{asleep_in}
use Rattle.iscsi_ffi_desk.proofs.AwakeLemmas.{none_asleep}

told_outbox : (conn cid : ℕ) (d : Doing) (b : Bool) → (if b then in_state (λ s. record s { awake = set s.awake conn true }) (tell (Ready cid) d) else d).state.outbox ≡ d.state.outbox
told_outbox conn cid d true = refl
told_outbox conn cid d false = refl

pub tell_on_outbox : (conn cid : ℕ) (d : Doing) → (tell_on conn cid d).state.outbox ≡ d.state.outbox
tell_on_outbox conn cid d = told_outbox conn cid d (gives (given cid d.state.outbox) && not (get_or d.state.awake conn false))

closed_outbox : (conn cid : ℕ) (d : Doing) (b : Bool) → (if b then in_state (λ s. record s { over = set s.over conn true }) (tell (Close cid) d) else d).state.outbox ≡ d.state.outbox
closed_outbox conn cid d true = refl
closed_outbox conn cid d false = refl

pub close_on_outbox : (conn cid : ℕ) (d : Doing) → (close_on conn cid d).state.outbox ≡ d.state.outbox
close_on_outbox conn cid d = closed_outbox conn cid d (gives_no_more (given cid d.state.outbox) && not (get_or d.state.over conn false))

pub tell_each_step : (conn : ℕ) (cids : List ℕ) (d d' : Doing) → conn < length cids → d' ≡ tell_on conn (get_or cids conn 0) d → tell_each (conn + 1) (drop (conn + 1) cids) d' ≡ tell_each conn (drop conn cids) d
tell_each_step conn cids d d' within is =
    ap (λ (e : Doing). tell_each (conn + 1) (drop (conn + 1) cids) e) is
    ∙ ap (λ (xs : List ℕ). tell_each conn xs d) (sym (drop_more cids conn 0 within))

pub close_each_step : (conn : ℕ) (cids : List ℕ) (d d' : Doing) → conn < length cids → d' ≡ close_on conn (get_or cids conn 0) d → close_each (conn + 1) (drop (conn + 1) cids) d' ≡ close_each conn (drop conn cids) d
close_each_step conn cids d d' within is =
    ap (λ (e : Doing). close_each (conn + 1) (drop (conn + 1) cids) e) is
    ∙ ap (λ (xs : List ℕ). close_each conn xs d) (sym (drop_more cids conn 0 within))

pub tell_each_done : (conn : ℕ) (cids : List ℕ) (d : Doing) → length cids ≤ conn → tell_each conn (drop conn cids) d ≡ d
tell_each_done conn cids d all = ap (λ (xs : List ℕ). tell_each conn xs d) (drop_of_length-le cids all)

pub close_each_done : (conn : ℕ) (cids : List ℕ) (d : Doing) → length cids ≤ conn → close_each conn (drop conn cids) d ≡ d
close_each_done conn cids d all = ap (λ (xs : List ℕ). close_each conn xs d) (drop_of_length-le cids all)

pub tell_each_outbox : (conn : ℕ) (cids : List ℕ) (d : Doing) → (tell_each conn cids d).state.outbox ≡ d.state.outbox
tell_each_outbox conn [] d = refl
tell_each_outbox conn (cid ∷ cids) d = tell_each_outbox (conn + 1) cids (tell_on conn cid d) ∙ tell_on_outbox conn cid d

-- ---- all were told to be ready

one_told : (conn cid : ℕ) (d : Doing) (b : Bool) → get_or d.state.awake conn false ≡ true
    → (if b && not (get_or d.state.awake conn false) then in_state (λ s. record s { awake = set s.awake conn true }) (tell (Ready cid) d) else d) ≡ d
one_told conn cid d true e = cc
one_told conn cid d false e = refl

all_told : (conn : ℕ) (cids : List ℕ) (d : Doing) → ((k : ℕ) → k < conn + length cids → get_or d.state.awake k false ≡ true) → tell_each conn cids d ≡ d
all_told conn [] d all = refl
all_told conn (cid ∷ cids) d all =
    ap (λ (e : Doing). tell_each (conn + 1) cids e) (one_told conn cid d (gives (given cid d.state.outbox)) (all conn (omega arith)))
    ∙ all_told (conn + 1) cids d (λ k l. all k (omega (arith, l)))

pub none_told : (cids : List ℕ) (d : Doing) → length d.state.awake ≡ length cids → asleep_in d.state.awake ≡ 0 → tell_each 0 cids d ≡ d
none_told cids d long none = all_told 0 cids d (λ k l. none_asleep d.state.awake none k (omega (arith, l, long)))

-- ---- no connection is closed

same_word : (g : Given) → no_more_goes g ≡ gives_no_more g
same_word (Hands h) = refl
same_word Nothing = refl
same_word IsOver = refl

one_stays : (conn cid : ℕ) (d : Doing) (b : Bool) → b ≡ false
    → (if b && not (get_or d.state.over conn false) then in_state (λ s. record s { over = set s.over conn true }) (tell (Close cid) d) else d) ≡ d
one_stays conn cid d true e = cc
one_stays conn cid d false e = refl

pub none_closed : (conn : ℕ) (cids : List ℕ) (d : Doing) → has_closed d.state.outbox ≡ false → close_each conn cids d ≡ d
none_closed conn [] d none = refl
none_closed conn (cid ∷ cids) d none =
    ap (λ (e : Doing). close_each (conn + 1) cids e) (one_stays conn cid d (gives_no_more (given cid d.state.outbox)) (sym (same_word (given cid d.state.outbox)) ∙ none_over d.state.outbox none cid))
    ∙ none_closed (conn + 1) cids d none
