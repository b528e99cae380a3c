-- A unit's set of commands: its tickets, and what has been shown of it.
use Rattle.std.proofs.Common.{List, map, ℕ, [], ap, false, refl, true, ◌∷◌, ◌≡◌, ◌==◌, None, Some, filter, find, not, sym, ◌∙◌, ◌<◌, arith, get_or, replicate, suc, zero, Bool, count_by, ◌≤◌, ◌||◌, ◌&&◌, nat_lt, length, eq-eqb}
use Rattle.std.proofs.lemmas.Grind.{common_steps}
use Rattle.std.specs.List.{list_any, list_all}
use Rattle.iscsi_tasks.specs.declared.member.Member.{Member}
use Rattle.iscsi_tasks.specs.Sets.{given_in, after_moment, looked_at, opened as opened_set}
use Rattle.iscsi_tasks.specs.declared.task.Task.{Task}
use Rattle.iscsi_rules.proofs.general.ListLemmas.{none_left}
use Rattle.iscsi_rules.proofs.general.ListLemmas.{map-map}
use Rattle.iscsi_rules.proofs.general.BoolLemmas.{or_false, and_parts, and_false}
use Rattle.iscsi_rules.proofs.general.NumberLemmas.{none_above}

abbrev pub tickets : List Member → List ℕ
tickets ms = map (λ m. m.task.ticket) ms

-- ---- no call but entering and leaving changes the tickets

pub tickets-given_in : (ms : List Member) → tickets (given_in ms) ≡ tickets ms
tickets-given_in [] = refl
tickets-given_in (m ∷ ms) = grind (arith, tickets-given_in ms)

pub tickets-moment : (ms : List Member) → tickets (after_moment ms) ≡ tickets ms
tickets-moment ms = map-map (λ (m : Member). m.task.ticket) (looked_at ms) ms

none_with : (k : ℕ) (ms : List Member) → find (λ (t : Task). t.ticket == k) (map (λ (m : Member). m.task) ms) ≡ None → filter (λ t. not (t == k)) (tickets ms) ≡ tickets ms
none_with k [] h = refl
none_with k (m ∷ ms) h = grind (arith, none_with k ms)

pub set_opened : (n u depth : ℕ) → u < n → get_or (replicate n (opened_set depth)) u (opened_set 0) ≡ opened_set depth
set_opened zero u depth lt = absurd (omega arith)
set_opened (suc n) zero depth lt = refl
set_opened (suc n) (suc u) depth lt = set_opened n u depth (omega arith)

-- ---- what may be to come

pub ungiven_given : (ms : List Member) → count_by (λ m. not m.given) (given_in ms) ≤ count_by (λ m. not m.given) ms
ungiven_given [] = omega arith
ungiven_given (m ∷ ms) = grind (arith, common_steps, ungiven_given ms)

-- ---- nothing is left to leave

pub none_filtered : (q : Member → Bool) (ms : List Member) → list_any q ms ≡ false → filter q ms ≡ []
none_filtered q ms h = none_left q ms h

-- ---- tickets go up along a set

pub none_found : (covers : Task → Bool) (ms : List Member) → find covers (map (λ (m : Member). m.task) ms) ≡ None → list_any (λ m. covers m.task) ms ≡ false
none_found covers [] none = refl
none_found covers (x ∷ ms) none = grind (arith, none_found covers ms)

pub some_covered : (covers : Task → Bool) (ms : List Member) (task : Task) → find covers (map (λ (m : Member). m.task) ms) ≡ Some task → list_any (λ m. covers m.task) ms ≡ true
some_covered covers [] task found = absurd cc
some_covered covers (x ∷ ms) task found = grind (arith, some_covered covers ms task)

abbrev pub rising : List ℕ → Bool
rising [] = true
rising (t ∷ ts) = list_all (λ u. nat_lt t u) ts && rising ts

-- ---- who leaves, by tickets

all_at : (p : ℕ → Bool) (ms : List Member) (k : ℕ) (d : Member) → list_all p (tickets ms) ≡ true → k < length ms → p (get_or ms k d).task.ticket ≡ true
all_at p [] k d all lt = absurd (omega arith)
all_at p (x ∷ ms) zero d all lt = (and_parts (p x.task.ticket) (list_all p (tickets ms)) all).0
all_at p (x ∷ ms) (suc k) d all lt = all_at p ms k d (and_parts (p x.task.ticket) (list_all p (tickets ms)) all).1 (omega arith)

pub none_covered : (covers : Task → Bool) (k : ℕ) (ms : List Member) → list_any (λ t. t == k) (tickets ms) ≡ false → list_any (λ m. m.task.ticket == k && covers m.task) ms ≡ false
none_covered covers k [] h = refl
none_covered covers k (x ∷ ms) h = grind (arith, none_covered covers k ms)

-- a command is gone just where it is covered
pub gone_each : (covers : Task → Bool) (ms : List Member) (k : ℕ) (d : Member) → rising (tickets ms) ≡ true → k < length ms → list_any (λ m. m.task.ticket == (get_or ms k d).task.ticket && covers m.task) ms ≡ covers (get_or ms k d).task
gone_each covers [] k d up lt = absurd (omega arith)
gone_each covers (x ∷ ms) zero d up lt =
    let parts = and_parts (list_all (λ u. nat_lt x.task.ticket u) (tickets ms)) (rising (tickets ms)) up in
    ap (λ b. (b && covers x.task) || list_any (λ m. m.task.ticket == x.task.ticket && covers m.task) ms) (eq-eqb x.task.ticket x.task.ticket refl)
    ∙ ap (λ b. covers x.task || b) (none_covered covers x.task.ticket ms (none_above x.task.ticket (tickets ms) parts.0)) ∙ or_false (covers x.task)
gone_each covers (x ∷ ms) (suc k) d up lt = grind (arith, gone_each covers ms k d, all_at)

-- ---- the one with a ticket

pub one_gone : (k j : ℕ) (ms : List Member) → list_any (λ m. m.task.ticket == j && m.task.ticket == k) ms ≡ (j == k && list_any (λ m. m.task.ticket == k) ms)
one_gone k j [] = sym (and_false (j == k))
one_gone k j (x ∷ ms) = grind (arith, one_gone k j ms)
