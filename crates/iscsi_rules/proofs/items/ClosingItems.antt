-- Items that close connections or the session, or close none.
use Rattle.std.proofs.Common.{arith, List, false, ℕ, ◌≡◌, ap, ◌||◌, ◌∙◌, ◌∷◌, [], sym, ◌&&◌, ◌==◌, cond, filter, map, refl, true, ◌++◌, None, Option, Some, Bool, not}
use Rattle.std.specs.List.{list_any, flat_map, filter_map, list_all}
use Rattle.iscsi_wire.specs.Serial.{wire}
use Rattle.iscsi_rules.proofs.items.DeedLemmas.{views, tests}
use Rattle.iscsi_rules.specs.rules.Trace.{Mark, closes_conn, closes_session, Trace, is_closed, Arrival, Empties, ClosesConn, ClosesSession, sent_on, Command, Leaves, waiting_through}
use Rattle.iscsi_rules.specs.rules.Settings.{Setting, is_known}
use Rattle.iscsi_rules.specs.rules.Logout.{is_open, is_last_open, parting}
use Rattle.iscsi_rules.specs.declared.effect.Effect.TheVariants.{Empty, Leave}
use Rattle.iscsi_rules.specs.rules.Run.{effects_of_mark}
use Rattle.iscsi_rules.proofs.general.BoolLemmas.{or_false}
use Rattle.iscsi_rules.proofs.traces.NewlyLemmas.{Untouched}
use Rattle.iscsi_rules.proofs.traces.DeliveryLemmas.{IsQuiet}

pub record ClosesNone (item : List Mark) : Type 0 where
  pub session : list_any closes_session item ≡ false
  pub conns : (conn : ℕ) → list_any (closes_conn conn) item ≡ false

pub closed-same : (conn : ℕ) (item : List Mark) (t : Trace) → ClosesNone item → is_closed conn (item ∷ t) ≡ is_closed conn t
closed-same conn item t c = grind (arith, c.conns conn)

-- a mark, and those after it
pub closes-more : (m : Mark) (ms : List Mark) → ClosesNone (m ∷ []) → ClosesNone ms → ClosesNone (m ∷ ms)
closes-more m ms c cs = record {
  session = ap (λ b. b || list_any closes_session ms) (sym (or_false (closes_session m)) ∙ c.session) ∙ cs.session;
  conns = λ conn. ap (λ b. b || list_any (closes_conn conn) ms) (sym (or_false (closes_conn conn m)) ∙ c.conns conn) ∙ cs.conns conn;
}

-- each connection of the session is open
pub all_open : (o : Setting) (cs : List (ℕ × ℕ)) → ((cid : ℕ) → is_known cid cs ≡ true → is_known cid o.conns ≡ true) → filter (is_open o []) (map (λ (c : ℕ × ℕ). c.0) cs) ≡ map (λ (c : ℕ × ℕ). c.0) cs
all_open o [] within = refl
all_open o (c ∷ cs) within = grind (arith, all_open o cs)

-- ---- the marks of a Logout

pub untouched-emptied : (as' : List Arrival) → Untouched (map Empties as')
untouched-emptied as' = record { enters_none = simp views; leaves_no = λ k. simp tests }

-- what follows those that are taken out
abbrev pub closing_marks : Setting → Trace → Arrival → Option ℕ → List Mark
closing_marks o t a None = parting a 0 ++ ClosesSession ∷ []
closing_marks o t a (Some closing) = parting a 0 ++ ClosesConn closing ∷ cond (is_last_open o t closing) (ClosesSession ∷ []) []

pub untouched-closing : (o : Setting) (t : Trace) (a : Arrival) (scope : Option ℕ) → Untouched (closing_marks o t a scope)
untouched-closing o t a scope = grind arith

-- ---- the marks that close something

pub quiet-closing : (o : Setting) (t : Trace) (a : Arrival) (scope : Option ℕ) → IsQuiet (closing_marks o t a scope)
quiet-closing o t a scope = grind arith

-- ---- lists of such marks

pub emptied_sends : (hs : List Arrival) (rest : List Mark) → filter_map sent_on (map Empties hs ++ rest) ≡ filter_map sent_on rest
emptied_sends hs rest = simp views

pub left_sends : (cs : List Command) (rest : List Mark) → filter_map sent_on (map Leaves cs ++ rest) ≡ filter_map sent_on rest
left_sends cs rest = simp views

pub emptied_waits : (hs : List Arrival) (rest : List Mark) (ws : List Arrival) → waiting_through (map Empties hs ++ rest) ws ≡ waiting_through rest ws
emptied_waits [] rest ws = refl
emptied_waits (h ∷ hs) rest ws = emptied_waits hs rest ws

pub left_waits : (cs : List Command) (rest : List Mark) (ws : List Arrival) → waiting_through (map Leaves cs ++ rest) ws ≡ waiting_through rest ws
left_waits [] rest ws = refl
left_waits (c ∷ cs) rest ws = left_waits cs rest ws

pub emptied_shown : (o : Setting) (t : Trace) (hs : List Arrival) (rest : List Mark) → flat_map (effects_of_mark o t) (map Empties hs ++ rest) ≡ map (λ (h : Arrival). Empty (wire h.number)) hs ++ flat_map (effects_of_mark o t) rest
emptied_shown o t [] rest = refl
emptied_shown o t (h ∷ hs) rest = ap (λ es. Empty (wire h.number) ∷ es) (emptied_shown o t hs rest)

pub left_shown : (o : Setting) (t : Trace) (cs : List Command) (rest : List Mark) → flat_map (effects_of_mark o t) (map Leaves cs ++ rest) ≡ map (λ (c : Command). Leave c.ticket c.unit) cs ++ flat_map (effects_of_mark o t) rest
left_shown o t [] rest = refl
left_shown o t (c ∷ cs) rest = ap (λ es. Leave c.ticket c.unit ∷ es) (left_shown o t cs rest)

pub emptied_any : (test : Mark → Bool) (hs : List Arrival) (rest : List Mark) → ((h : Arrival) → test (Empties h) ≡ false) → list_any test (map Empties hs ++ rest) ≡ list_any test rest
emptied_any test hs rest none = simp (tests, none)

pub left_any : (test : Mark → Bool) (cs : List Command) (rest : List Mark) → ((c : Command) → test (Leaves c) ≡ false) → list_any test (map Leaves cs ++ rest) ≡ list_any test rest
left_any test cs rest none = simp (tests, none)

-- ---- what is open afterwards

abbrev pub is_nil : List ℕ → Bool
is_nil [] = true
is_nil (c ∷ cs) = false

pub nil_is : (cs : List ℕ) → is_nil cs ≡ true → cs ≡ []
nil_is cs h = grind arith

-- none stays open but for the one that closes
pub last_is : (o : Setting) (t : Trace) (closing : ℕ) (ds : List (ℕ × ℕ)) → ((k : ℕ) → is_known k ds ≡ true → is_known k o.conns ≡ true)
    → is_nil (filter (λ k. is_open o t k && not (k == closing)) (map (λ (d : ℕ × ℕ). d.0) ds)) ≡ list_all (λ d. (d.0 == closing) || is_closed d.0 t) ds
last_is o t closing [] within = refl
last_is o t closing (d ∷ ds) within = grind (arith, last_is o t closing ds)
