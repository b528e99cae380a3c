-- What is found where a request does what the table says, and what holds of each deed of it.
use Rattle.std.proofs.Common.{◌≡◌, ℕ, ◌<◌, ◌==◌, ◌||◌, Bool, true, false, Some, None, ap, subst, ◌∙◌, arith}
use Rattle.std.proofs.lemmas.Bool.{eqb-true}
use Rattle.std.proofs.lemmas.Bool.Decides.{nat_tests}
use Rattle.iscsi_wire.specs.declared.request.Request.{Request}
use Rattle.iscsi_wire.specs.Fields.{function, cid}
use Rattle.iscsi_rules.specs.declared.deed.Answer.{Answer}
use Rattle.iscsi_rules.specs.declared.deed.Answer.TheVariants.{Respond, LogOut}
use Rattle.iscsi_rules.specs.declared.deed.Deed.{Deed}
use Rattle.iscsi_rules.specs.declared.deed.Deed.TheVariants.{Nothing, Wait, Reply as Replies, Enter, Void, Empty, Abort, AbortEarlier, AbortAll, CloseConn, CloseSession}
use Rattle.iscsi_rules.specs.rules.Execution.{unit_named}
use Rattle.iscsi_rules.specs.rules.Management.{refusal}
use Rattle.iscsi_rules.specs.rules.Deeds.{Facts, function_deed, deed_of}
use Rattle.iscsi_rules.specs.promises.Aborts.{is_set_abort}

-- the unit that a request names is one of the session's
pub named_below : (units : ℕ) (r : Request) (u : ℕ) → unit_named units r ≡ Some u → u < units
named_below units r u h = grind arith

-- ---- what is found where a request does this

pub record BefitsEnter (f : Facts) (unit : ℕ) : Type 0 where
  pub named : f.unit ≡ Some unit
  pub unused : f.is_used ≡ false
  pub uncrowded : f.is_crowded ≡ false
  pub not_full : f.is_full ≡ false

-- Function complete isn't the answer of a function over a whole set that takes nothing out
abbrev pub Befits : Facts → Request → Deed → Type 0
Befits f r Wait = ⊥
Befits f r (Replies x) = is_set_abort r ≡ true → x ≡ Respond 0 → ⊥
Befits f r (Enter unit) = BefitsEnter f unit
Befits f r Void = ((function r == 1) ≡ true) × (f.is_missing ≡ true)
Befits f r (Empty unit sn) = ((function r == 1) ≡ true) × (f.unit ≡ Some unit) × (f.held ≡ Some sn)
Befits f r (Abort unit ticket) = ((function r == 1) ≡ true) × (f.unit ≡ Some unit) × (f.live ≡ Some ticket)
Befits f r (AbortEarlier unit) = (f.unit ≡ Some unit) × ((function r == 5) ≡ false)
Befits f r (AbortAll unit) = f.unit ≡ Some unit
Befits f r (CloseConn closing) = (closing ≡ cid r) × (f.is_open ≡ true)
Befits f r _ = Unit {0}

-- a function of this number is no abort of a whole set
pub unset : (r : Request) (n : ℕ) → (function r == n) ≡ true → (n == 2 || n == 4 || n == 5) ≡ false → is_set_abort r ≡ false
unset r n is other = ap (λ m. m == 2 || m == 4 || m == 5) (eqb-true (function r) n is) ∙ other

abbrev pub is_parting : Answer → Bool
is_parting (LogOut response) = true
is_parting _ = false

module _ (f : Facts) (r : Request) where
  pub befits_function : Befits f r (function_deed f r)
  befits_function = grind (arith, nat_tests)

  -- nor a Logout Response
  pub refused_plainly : (x : Answer) → refusal f.level f.unit r ≡ Some x → is_parting x ≡ false
  refused_plainly x is = grind (arith, nat_tests)

  unless_refused : (d : Deed) → Befits f r d → Befits f r (elim (refusal f.level f.unit r) [ Some x ↦ Replies x | None ↦ d ])
  unless_refused d befits = grind (arith, nat_tests)

  pub befits_deed : Befits f r (deed_of f r)
  befits_deed = grind (arith, nat_tests)

-- ---- what holds of each deed of a table

-- those of functions, which are answered by responses
pub with_answers : (P : Deed → Type 0) (f : Facts) (r : Request) → P Nothing → ((n : ℕ) → P (Replies (Respond n))) → P Void → ((unit sn : ℕ) → P (Empty unit sn)) → ((unit ticket : ℕ) → P (Abort unit ticket))
    → ((unit : ℕ) → P (AbortEarlier unit)) → ((unit : ℕ) → P (AbortAll unit)) → P (function_deed f r)
with_answers P f r nothing reply void empty abort earlier all = grind arith

pub through_function : (P : Deed → Type 0) (f : Facts) (r : Request) → P Nothing → ((x : Answer) → P (Replies x)) → P Void → ((unit sn : ℕ) → P (Empty unit sn)) → ((unit ticket : ℕ) → P (Abort unit ticket))
    → ((unit : ℕ) → P (AbortEarlier unit)) → ((unit : ℕ) → P (AbortAll unit)) → P (function_deed f r)
through_function P f r nothing reply void empty abort earlier all = with_answers P f r nothing (λ n. reply (Respond n)) void empty abort earlier all

pub through_deed : (P : Deed → Type 0) (f : Facts) (r : Request) → P (function_deed f r) → P Nothing → ((x : Answer) → P (Replies x)) → ((unit : ℕ) → P (Enter unit)) → ((closing : ℕ) → P (CloseConn closing)) → P CloseSession → P (deed_of f r)
through_deed P f r functions nothing reply enter close end = grind (arith, nat_tests)

-- what executes doesn't wait
pub never_waits : (f : Facts) (r : Request) → deed_of f r ≡ Wait → ⊥
never_waits f r is = subst (Befits f r) is (befits_deed f r)
