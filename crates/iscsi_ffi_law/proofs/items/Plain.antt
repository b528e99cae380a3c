-- An item by which nothing is taken out and nothing is closed: a request executes, it may void a number, and then a command enters, or one reply is sent, or neither.
use Rattle.std.proofs.Common.{◌≡◌, ℕ, not, false, List, [], ◌∷◌, ◌++◌, filter_map, Option, Some, None, option_map, refl, ap}
use Rattle.std.specs.List.{flat_map, list_any}
use Rattle.iscsi_wire.specs.declared.reply.Reply.{Reply}
use Rattle.iscsi_wire.specs.declared.request.Request.{Request}
use Rattle.iscsi_wire.specs.Fields.{connection_of, is_immediate, itt}
use Rattle.iscsi_wire.specs.Serial.{wire}
use Rattle.iscsi_rules.specs.declared.effect.Effect.{Effect}
use Rattle.iscsi_rules.specs.declared.effect.Effect.TheVariants.{Deliver, Enter, Immediate, Send, Void}
use Rattle.iscsi_rules.specs.rules.Settings.{Setting}
use Rattle.iscsi_rules.specs.rules.Run.{effects_of_item, effects_of_mark, newly_enabled, stat_sn_of}
use Rattle.iscsi_rules.specs.rules.Trace.{Arrival, Command, Enters, Mark, Sends, Trace, Voids, enters, leaves_ticket, waiting}
use Rattle.iscsi_rules.proofs.items.Forms.{AfterWaiting, AtArrival, AtTurn, Start, if_some, start_mark}
use Rattle.iscsi_rules.proofs.traces.NewlyLemmas.{Untouched}
use Rattle.iscsi_outbox_rules.specs.rules.Boxes.{Dormant, Task}
use Rattle.iscsi_ffi_rules.specs.rules.Happening.{answers_in, leaving}
use Rattle.iscsi_ffi_law.proofs.completions.DoneShape.{enables}
use Rattle.iscsi_ffi_law.proofs.items.QuietBox.{IsQuietPart}
use Rattle.iscsi_ffi_law.proofs.items.QuietItems.{IsUnheld}

-- its marks
abbrev pub plain_marks : Arrival → Option ℕ → Option Command → Option Reply → List Mark
plain_marks a void entering reply = if_some Voids void ++ (if_some Enters entering ++ if_some (Sends (connection_of a.request)) reply)

abbrev pub plain_item : Start → Arrival → Option ℕ → Option Command → Option Reply → List Mark
plain_item start a void entering reply = start_mark start a ∷ plain_marks a void entering reply

-- .. and its effects
abbrev pub start_effect : Start → Request → Effect
start_effect AtTurn r = Deliver r
start_effect AtArrival r = Immediate r
start_effect AfterWaiting r = Immediate r

abbrev pub void_effects : Option ℕ → List Effect
void_effects (Some n) = Void (wire n) ∷ []
void_effects None = []

abbrev pub enter_effects : Option Command → List Effect
enter_effects (Some c) = Enter c.ticket c.unit c.attr ∷ []
enter_effects None = []

abbrev pub send_effects : ℕ → ℕ → Option Reply → List Effect
send_effects conn sn (Some reply) = Send conn sn reply ∷ []
send_effects conn sn None = []

abbrev pub plain_effects : ℕ → Start → Arrival → Option ℕ → Option Command → Option Reply → List Command → List Effect
plain_effects sn start a void entering reply ns = start_effect start a.request ∷ (void_effects void ++ (enter_effects entering ++ (send_effects (connection_of a.request) sn reply ++ enables ns)))

marks_effects : (o : Setting) (t : Trace) (a : Arrival) (void : Option ℕ) (entering : Option Command) (reply : Option Reply) (more : List Effect)
    → flat_map (effects_of_mark o t) (plain_marks a void entering reply) ++ more ≡ void_effects void ++ (enter_effects entering ++ (send_effects (connection_of a.request) (stat_sn_of o t (connection_of a.request)) reply ++ more))
marks_effects o t a None None None more = refl
marks_effects o t a None None (Some reply) more = refl
marks_effects o t a None (Some c) None more = refl
marks_effects o t a None (Some c) (Some reply) more = refl
marks_effects o t a (Some n) None None more = refl
marks_effects o t a (Some n) None (Some reply) more = refl
marks_effects o t a (Some n) (Some c) None more = refl
marks_effects o t a (Some n) (Some c) (Some reply) more = refl

pub effects_plain : (o : Setting) (t : Trace) (start : Start) (a : Arrival) (void : Option ℕ) (entering : Option Command) (reply : Option Reply)
    → effects_of_item o t (plain_item start a void entering reply) ≡ plain_effects (stat_sn_of o t (connection_of a.request)) start a void entering reply (newly_enabled o t (plain_item start a void entering reply))
effects_plain o t AtTurn a void entering reply = ap (λ es. start_effect AtTurn a.request ∷ es) (marks_effects o t a void entering reply (enables (newly_enabled o t (plain_item AtTurn a void entering reply))))
effects_plain o t AtArrival a void entering reply = ap (λ es. start_effect AtArrival a.request ∷ es) (marks_effects o t a void entering reply (enables (newly_enabled o t (plain_item AtArrival a void entering reply))))
effects_plain o t AfterWaiting a void entering reply = ap (λ es. start_effect AfterWaiting a.request ∷ es) (marks_effects o t a void entering reply (enables (newly_enabled o t (plain_item AfterWaiting a void entering reply))))

-- ---- where no command enters

pub untouched_plain : (start : Start) (a : Arrival) (void : Option ℕ) (reply : Option Reply) → Untouched (plain_item start a void None reply)
untouched_plain AtTurn a None None = record { enters_none = refl; leaves_no = λ k. refl }
untouched_plain AtTurn a None (Some reply) = record { enters_none = refl; leaves_no = λ k. refl }
untouched_plain AtTurn a (Some n) None = record { enters_none = refl; leaves_no = λ k. refl }
untouched_plain AtTurn a (Some n) (Some reply) = record { enters_none = refl; leaves_no = λ k. refl }
untouched_plain AtArrival a None None = record { enters_none = refl; leaves_no = λ k. refl }
untouched_plain AtArrival a None (Some reply) = record { enters_none = refl; leaves_no = λ k. refl }
untouched_plain AtArrival a (Some n) None = record { enters_none = refl; leaves_no = λ k. refl }
untouched_plain AtArrival a (Some n) (Some reply) = record { enters_none = refl; leaves_no = λ k. refl }
untouched_plain AfterWaiting a None None = record { enters_none = refl; leaves_no = λ k. refl }
untouched_plain AfterWaiting a None (Some reply) = record { enters_none = refl; leaves_no = λ k. refl }
untouched_plain AfterWaiting a (Some n) None = record { enters_none = refl; leaves_no = λ k. refl }
untouched_plain AfterWaiting a (Some n) (Some reply) = record { enters_none = refl; leaves_no = λ k. refl }

pub quiet_plain : (sn : ℕ) (start : Start) (a : Arrival) (void : Option ℕ) (reply : Option Reply) → IsQuietPart (plain_effects sn start a void None reply []) (Some (a.request)) (option_map (λ (x : Reply). (connection_of a.request, x)) reply)
quiet_plain sn AtTurn a None None = record { enables = refl; left = refl; entries = refl; entering = λ x. refl; closing = λ links. refl; executes = refl; sends = refl }
quiet_plain sn AtTurn a None (Some reply) = record { enables = refl; left = refl; entries = refl; entering = λ x. refl; closing = λ links. refl; executes = refl; sends = refl }
quiet_plain sn AtTurn a (Some n) None = record { enables = refl; left = refl; entries = refl; entering = λ x. refl; closing = λ links. refl; executes = refl; sends = refl }
quiet_plain sn AtTurn a (Some n) (Some reply) = record { enables = refl; left = refl; entries = refl; entering = λ x. refl; closing = λ links. refl; executes = refl; sends = refl }
quiet_plain sn AtArrival a None None = record { enables = refl; left = refl; entries = refl; entering = λ x. refl; closing = λ links. refl; executes = refl; sends = refl }
quiet_plain sn AtArrival a None (Some reply) = record { enables = refl; left = refl; entries = refl; entering = λ x. refl; closing = λ links. refl; executes = refl; sends = refl }
quiet_plain sn AtArrival a (Some n) None = record { enables = refl; left = refl; entries = refl; entering = λ x. refl; closing = λ links. refl; executes = refl; sends = refl }
quiet_plain sn AtArrival a (Some n) (Some reply) = record { enables = refl; left = refl; entries = refl; entering = λ x. refl; closing = λ links. refl; executes = refl; sends = refl }
quiet_plain sn AfterWaiting a None None = record { enables = refl; left = refl; entries = refl; entering = λ x. refl; closing = λ links. refl; executes = refl; sends = refl }
quiet_plain sn AfterWaiting a None (Some reply) = record { enables = refl; left = refl; entries = refl; entering = λ x. refl; closing = λ links. refl; executes = refl; sends = refl }
quiet_plain sn AfterWaiting a (Some n) None = record { enables = refl; left = refl; entries = refl; entering = λ x. refl; closing = λ links. refl; executes = refl; sends = refl }
quiet_plain sn AfterWaiting a (Some n) (Some reply) = record { enables = refl; left = refl; entries = refl; entering = λ x. refl; closing = λ links. refl; executes = refl; sends = refl }

-- ---- what is held, and what waits

pub unheld_marks : (a : Arrival) (void : Option ℕ) (entering : Option Command) (reply : Option Reply) → IsUnheld (plain_marks a void entering reply)
unheld_marks a None None None = record { admits = refl; admits_none = λ k. refl; delivers = λ k. refl; empties = λ k. refl }
unheld_marks a None None (Some reply) = record { admits = refl; admits_none = λ k. refl; delivers = λ k. refl; empties = λ k. refl }
unheld_marks a None (Some c) None = record { admits = refl; admits_none = λ k. refl; delivers = λ k. refl; empties = λ k. refl }
unheld_marks a None (Some c) (Some reply) = record { admits = refl; admits_none = λ k. refl; delivers = λ k. refl; empties = λ k. refl }
unheld_marks a (Some n) None None = record { admits = refl; admits_none = λ k. refl; delivers = λ k. refl; empties = λ k. refl }
unheld_marks a (Some n) None (Some reply) = record { admits = refl; admits_none = λ k. refl; delivers = λ k. refl; empties = λ k. refl }
unheld_marks a (Some n) (Some c) None = record { admits = refl; admits_none = λ k. refl; delivers = λ k. refl; empties = λ k. refl }
unheld_marks a (Some n) (Some c) (Some reply) = record { admits = refl; admits_none = λ k. refl; delivers = λ k. refl; empties = λ k. refl }

pub waits_turn : (t : Trace) (a : Arrival) (void : Option ℕ) (entering : Option Command) (reply : Option Reply) → waiting (plain_item AtTurn a void entering reply ∷ t) ≡ waiting t
waits_turn t a None None None = refl
waits_turn t a None None (Some reply) = refl
waits_turn t a None (Some c) None = refl
waits_turn t a None (Some c) (Some reply) = refl
waits_turn t a (Some n) None None = refl
waits_turn t a (Some n) None (Some reply) = refl
waits_turn t a (Some n) (Some c) None = refl
waits_turn t a (Some n) (Some c) (Some reply) = refl

pub waits_arrival : (t : Trace) (a : Arrival) (void : Option ℕ) (entering : Option Command) (reply : Option Reply) → waiting (plain_item AtArrival a void entering reply ∷ t) ≡ waiting ((start_mark AtArrival a ∷ []) ∷ t)
waits_arrival t a None None None = refl
waits_arrival t a None None (Some reply) = refl
waits_arrival t a None (Some c) None = refl
waits_arrival t a None (Some c) (Some reply) = refl
waits_arrival t a (Some n) None None = refl
waits_arrival t a (Some n) None (Some reply) = refl
waits_arrival t a (Some n) (Some c) None = refl
waits_arrival t a (Some n) (Some c) (Some reply) = refl

-- ---- what leaves, and what is answered

pub leaves_none : (start : Start) (a : Arrival) (void : Option ℕ) (entering : Option Command) (reply : Option Reply) → filter_map leaving (plain_item start a void entering reply) ≡ []
leaves_none AtTurn a None None None = refl
leaves_none AtTurn a None None (Some reply) = refl
leaves_none AtTurn a None (Some c) None = refl
leaves_none AtTurn a None (Some c) (Some reply) = refl
leaves_none AtTurn a (Some n) None None = refl
leaves_none AtTurn a (Some n) None (Some reply) = refl
leaves_none AtTurn a (Some n) (Some c) None = refl
leaves_none AtTurn a (Some n) (Some c) (Some reply) = refl
leaves_none AtArrival a None None None = refl
leaves_none AtArrival a None None (Some reply) = refl
leaves_none AtArrival a None (Some c) None = refl
leaves_none AtArrival a None (Some c) (Some reply) = refl
leaves_none AtArrival a (Some n) None None = refl
leaves_none AtArrival a (Some n) None (Some reply) = refl
leaves_none AtArrival a (Some n) (Some c) None = refl
leaves_none AtArrival a (Some n) (Some c) (Some reply) = refl
leaves_none AfterWaiting a None None None = refl
leaves_none AfterWaiting a None None (Some reply) = refl
leaves_none AfterWaiting a None (Some c) None = refl
leaves_none AfterWaiting a None (Some c) (Some reply) = refl
leaves_none AfterWaiting a (Some n) None None = refl
leaves_none AfterWaiting a (Some n) None (Some reply) = refl
leaves_none AfterWaiting a (Some n) (Some c) None = refl
leaves_none AfterWaiting a (Some n) (Some c) (Some reply) = refl

abbrev pub answers_of : Arrival → Option Reply → List ℕ
answers_of a (Some reply) = a.event ∷ []
answers_of a None = []

pub answers_plain : (event : ℕ) (start : Start) (a : Arrival) (void : Option ℕ) (entering : Option Command) (reply : Option Reply) → answers_in event (plain_item start a void entering reply) ≡ answers_of a reply
answers_plain event AtTurn a None None None = refl
answers_plain event AtTurn a None None (Some reply) = refl
answers_plain event AtTurn a None (Some c) None = refl
answers_plain event AtTurn a None (Some c) (Some reply) = refl
answers_plain event AtTurn a (Some n) None None = refl
answers_plain event AtTurn a (Some n) None (Some reply) = refl
answers_plain event AtTurn a (Some n) (Some c) None = refl
answers_plain event AtTurn a (Some n) (Some c) (Some reply) = refl
answers_plain event AtArrival a None None None = refl
answers_plain event AtArrival a None None (Some reply) = refl
answers_plain event AtArrival a None (Some c) None = refl
answers_plain event AtArrival a None (Some c) (Some reply) = refl
answers_plain event AtArrival a (Some n) None None = refl
answers_plain event AtArrival a (Some n) None (Some reply) = refl
answers_plain event AtArrival a (Some n) (Some c) None = refl
answers_plain event AtArrival a (Some n) (Some c) (Some reply) = refl
answers_plain event AfterWaiting a None None None = refl
answers_plain event AfterWaiting a None None (Some reply) = refl
answers_plain event AfterWaiting a None (Some c) None = refl
answers_plain event AfterWaiting a None (Some c) (Some reply) = refl
answers_plain event AfterWaiting a (Some n) None None = refl
answers_plain event AfterWaiting a (Some n) None (Some reply) = refl
answers_plain event AfterWaiting a (Some n) (Some c) None = refl
answers_plain event AfterWaiting a (Some n) (Some c) (Some reply) = refl

-- ---- where a command enters

abbrev pub task_of : Request → Command → Task
task_of q c = record { ticket = c.ticket; conn = connection_of q; unit = c.unit; tag = itt q; numbered = not (is_immediate q); phase = Dormant }

pub one_enters : (start : Start) (a : Arrival) (void : Option ℕ) (c : Command) → filter_map enters (plain_item start a void (Some c) None) ≡ c ∷ []
one_enters AtTurn a None c = refl
one_enters AtTurn a (Some n) c = refl
one_enters AtArrival a None c = refl
one_enters AtArrival a (Some n) c = refl
one_enters AfterWaiting a None c = refl
one_enters AfterWaiting a (Some n) c = refl

pub leaves_no : (start : Start) (a : Arrival) (void : Option ℕ) (c : Command) (k : ℕ) → list_any (leaves_ticket k) (plain_item start a void (Some c) None) ≡ false
leaves_no AtTurn a None c k = refl
leaves_no AtTurn a (Some n) c k = refl
leaves_no AtArrival a None c k = refl
leaves_no AtArrival a (Some n) c k = refl
leaves_no AfterWaiting a None c k = refl
leaves_no AfterWaiting a (Some n) c k = refl
