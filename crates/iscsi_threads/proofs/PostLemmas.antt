-- What a poster has posted.
use Rattle.std.specs.Prelude.{◌≡◌, ℕ, ◌≤◌, Bool, IsTrue, List, ◌++◌, length}
use Rattle.std.proofs.Common.{ap, ◌∙◌, take, drop, append_assoc}
use Rattle.std.proofs.lemmas.List.{take-append-drop, take_all}
use Rattle.iscsi_threads.specs.declared.port.Port.{Port}
use Rattle.iscsi_threads.specs.rules.Ports.{posted, port_ring}
use Rattle.iscsi_threads.specs.private.Posting.{HasPosted}

-- fewer are said to be whole
pub less_whole : (before : Port) (list : List (List ℕ)) (after : Port) (a b : Bool) → (IsTrue b → IsTrue a) → HasPosted before list after a → HasPosted before list after b
less_whole before list after a b less x = record {
  ring = x.ring;
  front = x.front;
  whole = λ yes. x.whole (less yes);
}

-- so many headers of the list were posted, and where it is said to be whole, that many at least
pub posted_some : (before : Port) (list : List (List ℕ)) (after : Port) (is_whole : Bool) (n : ℕ)
    → port_ring after ≡ port_ring before → posted after ≡ posted before ++ take n list → (IsTrue is_whole → length list ≤ n) → HasPosted before list after is_whole
posted_some before list after is_whole n ring same all = record {
  ring = ring;
  front = (
    drop n list,
    ap (λ (l : List (List ℕ)). l ++ drop n list) same
        ∙ append_assoc (posted before) (take n list) (drop n list)
        ∙ ap (λ (l : List (List ℕ)). posted before ++ l) (take-append-drop n list),
  );
  whole = λ yes. same ∙ ap (λ (l : List (List ℕ)). posted before ++ l) (take_all n list (all yes));
}
