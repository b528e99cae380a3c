-- What a side tells is handed over, one after the other.
use Rattle.std.proofs.Common.{◌≡◌, ◌∙◌, ℕ, zero, ◌+◌, ◌-◌, ◌<◌, ◌≤◌, ◌||◌, Bool, true, false, List, [], ◌∷◌, ◌++◌, min, nat_lt, length, set, take, drop, suc, Some, None, if◌then◌else◌, refl, sym, ap, arith}
use Rattle.std.proofs.lemmas.Bool.{false≢true, ltb-false, ltb-true}
use Rattle.std.proofs.lemmas.List.{drop-drop, drop_all, drop_more, take_all}
use Rattle.iscsi_ffi_rules.specs.declared.action.Action.{Action}
use Rattle.iscsi_ffi_rules.specs.declared.action.Action.TheVariants.{Forget}
use Rattle.iscsi_requests.specs.Conns.{oldest}
use Rattle.iscsi_ffi.specs.Standing.{Sided, is_waiting, taken_one, waiting}
use Rattle.iscsi_ffi_handle.specs.declared.plain.PlainAction.{PlainAction}
use Rattle.iscsi_ffi_handle.specs.Plain.{plain_action}
use Rattle.iscsi_ffi_handle.specs.Telling.{room_in, side_after, taken_many, told_after, written_over}

-- ---- what waits

abbrev nothing : Action
nothing = Forget 0

-- the first of two lists has one less, or the second one
first_less : (g : ℕ) (xs ys : List Action) → nat_lt g (length xs) ≡ true → drop (g + 1) xs ++ ys ≡ drop 1 (drop g xs ++ ys)
first_less g xs ys lt = sym (ap (λ (zs : List Action). drop 1 (zs ++ ys)) (drop_more xs g nothing (ltb-true g (length xs) lt)))

second_less : (f : ℕ) (ys : List Action) → nat_lt f (length ys) ≡ true → drop (f + 1) ys ≡ drop 1 (drop f ys)
second_less f ys lt = sym (ap (λ (zs : List Action). drop 1 zs) (drop_more ys f nothing (ltb-true f (length ys) lt)))

-- none of it is left
none : (g : ℕ) (xs : List Action) → nat_lt g (length xs) ≡ false → drop g xs ≡ []
none g xs ge = drop_all g xs (ltb-false g (length xs) ge)

-- where the first list has one, where the second has
abbrev taken : Sided → Bool → Bool → Sided
taken v a b = if a then record v { given = v.given + 1 } else (if b then record v { forgotten = v.forgotten + 1 } else v)

pub waiting_one : (v : Sided) → waiting (taken_one v) ≡ drop 1 (waiting v)
waiting_one v = by_given (nat_lt v.given (length v.desk.actions)) refl (nat_lt v.forgotten (length v.desk.forgets)) refl
  where
    by_given : (a : Bool) → nat_lt v.given (length v.desk.actions) ≡ a → (b : Bool) → nat_lt v.forgotten (length v.desk.forgets) ≡ b → waiting (taken v a b) ≡ drop 1 (waiting v)
    by_given true is b or = first_less v.given v.desk.actions (drop v.forgotten v.desk.forgets) is
    by_given false is true or =
        ap (λ (zs : List Action). zs ++ drop (v.forgotten + 1) v.desk.forgets) (none v.given v.desk.actions is)
        ∙ second_less v.forgotten v.desk.forgets or
        ∙ ap (λ (zs : List Action). drop 1 (zs ++ drop v.forgotten v.desk.forgets)) (sym (none v.given v.desk.actions is))
    by_given false is false or =
        let empty : waiting v ≡ [] = ap (λ (zs : List Action). zs ++ drop v.forgotten v.desk.forgets) (none v.given v.desk.actions is) ∙ none v.forgotten v.desk.forgets or in
        empty ∙ sym (ap (λ (zs : List Action). drop 1 zs) empty)

pub waiting_many : (n : ℕ) (v : Sided) → waiting (taken_many n v) ≡ drop n (waiting v)
waiting_many zero v = refl
waiting_many (suc n) v =
    let on : 1 + n ≡ suc n = omega arith in
    waiting_one (taken_many n v)
    ∙ ap (λ (zs : List Action). drop 1 zs) (waiting_many n v)
    ∙ drop-drop 1 n (waiting v)
    ∙ ap (λ k. drop k (waiting v)) (sum n)
  where
    sum : (n : ℕ) → n + 1 ≡ suc n
    sum n = omega arith

-- one more
pub many_next : (n : ℕ) (v : Sided) → taken_one (taken_many n v) ≡ taken_many (n + 1) v
many_next n v = let on : suc n ≡ n + 1 = omega arith in ap (λ k. taken_many k v) on

-- ---- none waits any more

pub none_left : (xs : List Action) (n : ℕ) → oldest (drop n xs) ≡ None → length xs ≤ n
none_left xs n is = by_length (nat_lt n (length xs)) refl
  where
    by_length : (b : Bool) → nat_lt n (length xs) ≡ b → length xs ≤ n
    by_length false ge = ltb-false n (length xs) ge
    by_length true lt = absurd (some_is (sym (ap (λ (zs : List Action). oldest zs) (drop_more xs n nothing (ltb-true n (length xs) lt))) ∙ is))
      where
        some_is : {a : Action} → Some a ≡ None → ⊥
        some_is e = cc

idle_one : (v : Sided) → waiting v ≡ [] → taken_one v ≡ v
idle_one v empty = by_given (nat_lt v.given (length v.desk.actions)) refl (nat_lt v.forgotten (length v.desk.forgets)) refl
  where
    not_empty : (a : Action) (xs ys : List Action) → xs ++ ys ≡ [] → (zs : List Action) → xs ≡ a ∷ zs → ⊥
    not_empty a xs ys e zs is = cons_is (sym (ap (λ (l : List Action). l ++ ys) is) ∙ e)
      where
        cons_is : a ∷ (zs ++ ys) ≡ [] → ⊥
        cons_is e = cc

    by_given : (a : Bool) → nat_lt v.given (length v.desk.actions) ≡ a → (b : Bool) → nat_lt v.forgotten (length v.desk.forgets) ≡ b → taken v a b ≡ v
    by_given true is b or = absurd (not_empty _ _ _ empty _ (drop_more v.desk.actions v.given nothing (ltb-true v.given (length v.desk.actions) is)))
    by_given false is true or =
        let rest : drop v.forgotten v.desk.forgets ≡ [] = sym (ap (λ (zs : List Action). zs ++ drop v.forgotten v.desk.forgets) (none v.given v.desk.actions is)) ∙ empty in
        absurd (not_empty _ (drop v.forgotten v.desk.forgets) [] (ap (λ (zs : List Action). zs ++ []) rest) _ (drop_more v.desk.forgets v.forgotten nothing (ltb-true v.forgotten (length v.desk.forgets) or)))
    by_given false is false or = refl

idle_from : (m n : ℕ) (v : Sided) → length (waiting v) ≤ n → taken_many (m + n) v ≡ taken_many n v
idle_from zero n v le = ap (λ k. taken_many k v) (let z : zero + n ≡ n = omega arith in z)
idle_from (suc m) n v le = ap (λ k. taken_many k v) (sum m n) ∙ ap taken_one (idle_from m n v le) ∙ idle_one (taken_many n v) (waiting_many n v ∙ drop_all n (waiting v) le)
  where
    sum : (m n : ℕ) → suc m + n ≡ suc (m + n)
    sum m n = omega arith

pub idle_many : (n m : ℕ) (v : Sided) → length (waiting v) ≤ n → n ≤ m → taken_many n v ≡ taken_many m v
idle_many n m v le to = sym (ap (λ k. taken_many k v) (sum n m to) ∙ idle_from (m - n) n v le)
  where
    sum : (n m : ℕ) → n ≤ m → m ≡ (m - n) + n
    sum n m to = omega (arith, to)

pub all_taken : (n m : ℕ) (xs : List Action) → length xs ≤ n → n ≤ m → take n xs ≡ take m xs
all_taken n m xs le to = take_all n xs le ∙ sym (take_all m xs (omega (arith, le, to)))

-- as many as wait, or as there is room for: all that there is room for
pub whole_many : (n m : ℕ) (v : Sided) → n ≡ min (length (waiting v)) m → taken_many n v ≡ taken_many m v
whole_many n m v is = by_length (nat_lt n (length (waiting v))) refl
  where
    by_length : (b : Bool) → nat_lt n (length (waiting v)) ≡ b → taken_many n v ≡ taken_many m v
    by_length false ge = idle_many n m v (ltb-false n (length (waiting v)) ge) (omega (arith, is))
    by_length true lt =
        let more : n < length (waiting v) = ltb-true n (length (waiting v)) lt in
        let same : n ≡ m = omega (arith, is, more) in
        ap (λ k. taken_many k v) same

pub whole_taken : (n m : ℕ) (xs : List Action) → n ≡ min (length xs) m → take n xs ≡ take m xs
whole_taken n m xs is = by_length (nat_lt n (length xs)) refl
  where
    by_length : (b : Bool) → nat_lt n (length xs) ≡ b → take n xs ≡ take m xs
    by_length false ge = all_taken n m xs (ltb-false n (length xs) ge) (omega (arith, is))
    by_length true lt =
        let more : n < length xs = ltb-true n (length xs) lt in
        let same : n ≡ m = omega (arith, is, more) in
        ap (λ k. take k xs) same

-- ---- where none waits, nothing is handed over

pub empty_if : (v : Sided) → is_waiting v ≡ false → waiting v ≡ []
empty_if v idle = by_given (nat_lt v.given (length v.desk.actions)) refl (nat_lt v.forgotten (length v.desk.forgets)) refl
  where
    same : nat_lt v.given (length v.desk.actions) || nat_lt v.forgotten (length v.desk.forgets) ≡ false
    same = idle

    by_given : (a : Bool) → nat_lt v.given (length v.desk.actions) ≡ a → (b : Bool) → nat_lt v.forgotten (length v.desk.forgets) ≡ b → waiting v ≡ []
    by_given true is b or = absurd (false≢true (sym same ∙ ap (λ c. c || nat_lt v.forgotten (length v.desk.forgets)) is))
    by_given false is true or = absurd (false≢true (sym same ∙ ap (λ c. c || nat_lt v.forgotten (length v.desk.forgets)) is ∙ or))
    by_given false is false or =
        ap (λ (zs : List Action). zs ++ drop v.forgotten v.desk.forgets) (none v.given v.desk.actions is)
        ∙ none v.forgotten v.desk.forgets or

short : (xs : List Action) → xs ≡ [] → length xs ≤ 0
short xs empty = let none : length xs ≡ 0 = ap length empty in omega (arith, none)

pub same_side : (n : ℕ) (v : Sided) → waiting v ≡ [] → v ≡ taken_many n v
same_side n v empty = idle_many 0 n v (short (waiting v) empty) (let z : 0 ≤ n = omega arith in z)

pub same_places : (n : ℕ) (old : List PlainAction) (v : Sided) → waiting v ≡ [] → old ≡ written_over old (take n (waiting v))
same_places n old v empty =
    sym (ap (λ (xs : List Action). written_over old xs)
    (ap (λ (xs : List Action). take n xs) empty ∙ take_all n [] (let z : 0 ≤ n = omega arith in z)))

pub none_told : (places : List PlainAction) (v : Sided) → waiting v ≡ [] → record { count = 0; waiting = 0 } ≡ told_after places v
none_told places v empty =
    let before = short (waiting v) empty in
    let stays = same_side (room_in places) v empty in
    let after : length (waiting (side_after places v)) ≤ 0 = short (waiting (side_after places v)) (ap waiting (sym stays) ∙ empty) in
    let count : 0 ≡ min (length (waiting v)) (room_in places) = omega (arith, before) in
    let more : 0 ≡ min (length (waiting (side_after places v))) 4294967295 = omega (arith, after) in
    λ i. record { count = count i; waiting = more i }

-- ---- places

-- the next action is written behind those that are
pub next_over : (n : ℕ) (xs : List Action) (old : List PlainAction) (a : Action) → oldest (drop n xs) ≡ Some a → n < length old
    → set (written_over old (take n xs)) n (plain_action a) ≡ written_over old (take (n + 1) xs)
next_over n xs old a is lt = by_suc n xs old is lt ∙ ap (λ k. written_over old (take k xs)) (sum n)
  where
    sum : (n : ℕ) → suc n ≡ n + 1
    sum n = omega arith

    some_is : {x y : Action} → Some x ≡ Some y → x ≡ y
    some_is e = cc

    below : (n m : ℕ) → suc n < suc m → n < m
    below n m lt = omega (arith, lt)

    by_suc : (n : ℕ) (xs : List Action) (old : List PlainAction) → oldest (drop n xs) ≡ Some a → n < length old
        → set (written_over old (take n xs)) n (plain_action a) ≡ written_over old (take (suc n) xs)
    by_suc zero [] old is lt = cc
    by_suc (suc n) [] old is lt = cc
    by_suc n (x ∷ xs) [] is lt = absurd (no n lt)
      where
        no : (n : ℕ) → n < 0 → ⊥
        no n lt = omega (arith, lt)
    by_suc zero (x ∷ xs) (o ∷ os) is lt = ap (λ (y : Action). plain_action y ∷ os) (sym (some_is is))
    by_suc (suc n) (x ∷ xs) (o ∷ os) is lt = ap (λ (zs : List PlainAction). plain_action x ∷ zs) (by_suc n xs os is (below n (length os) lt))
