-- The answers of calls, by what a session answers.
use Rattle.std.proofs.Common.{◌≡◌, ◌∙◌, ap, sym, subst, refl, Bool, true, false, ℕ, nat_lt, List, length, take, Some, None, Result, Ok, if◌then◌else◌}
use Rattle.iscsi_rules.specs.declared.event.Event.TheVariants.{Arrive}
use Rattle.iscsi_rules.specs.declared.event.Event.{Event}
use Rattle.iscsi_rules.specs.rules.Settings.{Setting, is_valid}
use Rattle.iscsi_session.specs.declared.fault.SessionFault.{SessionFault}
use Rattle.iscsi_session.specs.declared.fault.SessionFault.TheVariants.{BadOptions}
use Rattle.iscsi_session.specs.promises.Refusals.{RefusesAs, refusal_of, refusal_of_options}
use Rattle.iscsi_host.specs.declared.answer.Answer.TheVariants.{ShortHeader}
use Rattle.iscsi_host.specs.Answers.{answer_of, arrival_answer}

-- options that a session is opened by are valid
valid_from : {A : Type 0} (b : Bool) (x : A) → RefusesAs (if b then None else Some BadOptions) (Ok x) → b ≡ true
valid_from true x refused = refl
valid_from false x refused = absurd refused

pub valid_as_opened : {A : Type 0} (o p : Setting) (result : Result A SessionFault) (x : A) → o ≡ p → RefusesAs (refusal_of_options o) result → result ≡ Ok x → is_valid p ≡ true
valid_as_opened {A} o p result x same refused ok =
    ap is_valid (sym same) ∙ valid_from (is_valid o) x (subst (λ (r : Result A SessionFault). RefusesAs (refusal_of_options o) r) ok refused)

-- a header that is long enough is answered as its arrival
pub long_enough : (o : Setting) (h : List Event) (cid : ℕ) (header first : List ℕ) → nat_lt (length header) 48 ≡ false → first ≡ take 48 header → answer_of (refusal_of o h (Arrive cid first)) ≡ arrival_answer o h cid header
long_enough o h cid header first long is =
    ap (λ (bytes : List ℕ). answer_of (refusal_of o h (Arrive cid bytes))) is
    ∙ sym (ap (λ b. if b then ShortHeader else answer_of (refusal_of o h (Arrive cid (take 48 header)))) long)
