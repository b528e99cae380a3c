-- What a writer has of some bytes.
use Rattle.std.proofs.Common.{◌≡◌, ℕ, ◌+◌, ◌-◌, List, [], ◌++◌, length, take, drop, Option, refl, sym, ap, ◌∙◌, subst, take-append-drop, append-nil, append_assoc}
use Rattle.std.proofs.Math.Seq.{take-add}
use Rattle.std.specs.Io.KnownBytes.{Appends}
use Rattle.std.proofs.KnownBytes.{Appends-nil, Appends-trans}
use Rattle.std.proofs.lemmas.List.{take_rest}
use Rattle.iscsi_recording.specs.Writing.{AppendsFront, AppendsBut}

pub front_of : (a b : Option (List ℕ)) (bytes : List ℕ) (k : ℕ) → Appends a b (take k bytes) → AppendsFront a b bytes
front_of a b bytes k h = record { front = take k bytes; back = drop k bytes; whole = sym (take-append-drop k bytes); appended = h }

-- n bytes more
pub more_of : (a b c : Option (List ℕ)) (bytes : List ℕ) (k n : ℕ) → Appends a b (take k bytes) → Appends b c (take n (take (length bytes - k) (drop k bytes))) → Appends a c (take (k + n) bytes)
more_of a b c bytes k n h i =
    subst (Appends a c) (sym (take-add k n bytes)) (Appends-trans a b c _ _ h (subst (λ l. Appends b c (take n l)) (take_rest bytes k) i))

-- nothing is written yet
pub nothing_of : (a : Option (List ℕ)) (bytes : List ℕ) → AppendsFront a a bytes
nothing_of a bytes = record { front = []; back = bytes; whole = refl; appended = Appends-nil a }

pub all_of : (a b : Option (List ℕ)) (bytes : List ℕ) → Appends a b bytes → AppendsFront a b bytes
all_of a b bytes h = record { front = bytes; back = []; whole = sym (append-nil bytes); appended = h }

-- a front of some bytes is one of those with more after them
pub front_longer : (a b : Option (List ℕ)) (bytes more whole : List ℕ) → whole ≡ bytes ++ more → AppendsFront a b bytes → AppendsFront a b whole
front_longer a b bytes more whole is f = record {
  front = f.front;
  back = f.back ++ more;
  whole = is ∙ ap (λ l. l ++ more) f.whole ∙ append_assoc f.front f.back more;
  appended = f.appended;
}

-- nothing is written, and nothing waits
pub waits_not : (a : Option (List ℕ)) (waiting : List ℕ) → waiting ≡ [] → AppendsBut a a waiting []
waits_not a waiting is = record { front = []; whole = sym is; appended = Appends-nil a }

-- nothing waits
pub waits_none : (a b : Option (List ℕ)) (bytes : List ℕ) → Appends a b bytes → AppendsBut a b [] bytes
waits_none a b bytes h = record { front = bytes; whole = sym (append-nil bytes); appended = h }

-- more bytes wait after the others
pub waits_more : (a b : Option (List ℕ)) (waiting more longer bytes all : List ℕ) → longer ≡ waiting ++ more → all ≡ bytes ++ more
    → AppendsBut a b waiting bytes → AppendsBut a b longer all
waits_more a b waiting more longer bytes all longer_is all_is h = record {
  front = h.front;
  whole = all_is ∙ ap (λ l. l ++ more) h.whole ∙ append_assoc h.front waiting more ∙ ap (λ l. h.front ++ l) (sym longer_is);
  appended = h.appended;
}

-- some of the bytes that wait are written
pub waits_less : (a b c : Option (List ℕ)) (waiting left bytes : List ℕ) → AppendsBut a b waiting bytes → AppendsBut b c left waiting → AppendsBut a c left bytes
waits_less a b c waiting left bytes h i = record {
  front = h.front ++ i.front;
  whole = h.whole ∙ ap (λ l. h.front ++ l) i.whole ∙ sym (append_assoc h.front i.front left);
  appended = Appends-trans a b c h.front i.front h.appended i.appended;
}

-- what is written and doesn't wait is a front
pub front_before : (a b : Option (List ℕ)) (waiting bytes : List ℕ) → AppendsBut a b waiting bytes → AppendsFront a b bytes
front_before a b waiting bytes h = record { front = h.front; back = waiting; whole = h.whole; appended = h.appended }

-- a front of the bytes that wait is written
pub front_after : (a b c : Option (List ℕ)) (waiting put bytes : List ℕ) → put ≡ waiting → AppendsBut a b waiting bytes → AppendsFront b c put → AppendsFront a c bytes
front_after a b c waiting put bytes is h f = record {
  front = h.front ++ f.front;
  back = f.back;
  whole = h.whole ∙ ap (λ l. h.front ++ l) (sym is ∙ f.whole) ∙ sym (append_assoc h.front f.front f.back);
  appended = Appends-trans a b c h.front f.front h.appended f.appended;
}

-- all of the bytes that wait are written
pub all_after : (a b c : Option (List ℕ)) (waiting put bytes : List ℕ) → put ≡ waiting → AppendsBut a b waiting bytes → Appends b c put → Appends a c bytes
all_after a b c waiting put bytes is h i =
    subst (Appends a c) (ap (λ l. h.front ++ l) is ∙ sym h.whole) (Appends-trans a b c h.front put h.appended i)
