-- What the definitions mean, said once more in other words.
use Rattle.std.specs.Prelude.{◌≡◌, ◌≤◌, ◌<◌, ℕ, ◌==◌, ◌&&◌, ◌||◌, Bool, true, false, List, [], ◌∷◌, count_by, is_some, if◌then◌else◌}
use Rattle.iscsi_wire.specs.Serial.{number_of_first}
use Rattle.iscsi_rules.specs.rules.Settings.{Setting}
use Rattle.iscsi_rules.specs.rules.Trace.{Mark, Voids, Trace, has, is_received, held, is_delivered, is_emptied, entered, live, is_among, leaves_ticket}
use Rattle.iscsi_rules.specs.rules.Execution.{exp_of}

-- ExpCmdSN is the least number, from the first one on, that isn't received (RFC 7143 section 4.2.2.1)
pub record IsLeastMissing (o : Setting) (t : Trace) : Type 0 where
  pub from_first : number_of_first o.first ≤ exp_of o t
  pub missing : is_received t (exp_of o t) ≡ false
  pub least : (n : ℕ) → number_of_first o.first ≤ n → n < exp_of o t → is_received t n ≡ true

abbrev pub voids_number : ℕ → Mark → Bool
voids_number n (Voids k) = k == n
voids_number n _ = false

-- what may have become of a number: a request is held at it, it was voided, or its request was taken out or executed
abbrev pub fates_of : Trace → ℕ → List Bool
fates_of t n = is_some (held t n) ∷ has (voids_number n) t ∷ is_emptied t n ∷ is_delivered t n ∷ []

pub record MeansWhatItSays (o : Setting) (t : Trace) : Type 0 where
  pub expected : IsLeastMissing o t
  -- a received number has one fate, and any other none
  pub fates : (n : ℕ) → count_by (λ fate. fate) (fates_of t n) ≡ (if is_received t n then 1 else 0)
  -- what entered is live or has left, not both, and nothing left that didn't enter
  pub parted : (ticket : ℕ) → is_among ticket (entered t) ≡ (is_among ticket (live t) || has (leaves_ticket ticket) t)
  pub apart : (ticket : ℕ) → (is_among ticket (live t) && has (leaves_ticket ticket) t) ≡ false
