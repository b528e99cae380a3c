-- The first line of bytes of which more may come.
use Rattle.std.proofs.Common.{◌≡◌, ℕ, zero, suc, ◌+◌, ◌-◌, ◌*◌, ◌%◌, ◌^◌, ◌<◌, ◌≤◌, ◌==◌, Bool, true, false, cond, List, [], ◌∷◌, ◌++◌, length, get_or, take, drop, Option, Some, None, Result, Ok, Err, is_some, slice_index, inl, inr, refl, sym, ap, ap₂, ◌∙◌, arith, length-take, take-append-drop}
use Rattle.std.specs.Prelude.{option_map, option_and_then, IsOk}
use Rattle.std.specs.List.{list_any}
use Rattle.std.specs.Result.{result_ok}
use Rattle.std.proofs.lemmas.Bool.{cases_lt, eqb-true}
use Rattle.std.proofs.lemmas.List.{drop_more, take_more}
use Rattle.std.proofs.Math.Seq.{take-append-add}
use Rattle.hex.specs.Hex.{decode_sized, hex_digit_value}
use Rattle.hex.specs.declared.error.FromHexError.{FromHexError}
use Rattle.hex.proofs.HexLemmas.{IsOk-decode_sized}
use Rattle.iscsi_rules.specs.declared.event.Event.{Event}
use Rattle.iscsi_rules.specs.declared.event.Event.TheVariants.{Arrive, Done}
use Rattle.iscsi_recording.proofs.Digits.{digit_small, has_room}
use Rattle.iscsi_recording.proofs.FieldLemmas.{push, text_before, text_after}
use Rattle.iscsi_recording.proofs.FirstLemmas.{within, pow_grows, led}
use Rattle.iscsi_recording.proofs.LineLemmas.{false_or, no_end-all, no_end-append}
use Rattle.iscsi_recording.specs.Fields.{is_blank, is_digit, digits_after, up_to, decimal_of, hex_of}
use Rattle.iscsi_recording.specs.Fronts.{LeadsWith, FirstSays}
use Rattle.iscsi_recording.specs.Grammar.{line_of}
use Rattle.iscsi_recording.specs.Reading.{is_end}
use Rattle.iscsi_recording.specs.declared.line.Line.TheVariants as line

-- ---- a number

-- n is the number of the first i bytes, which are digits
pub record Numbered (bytes : List ℕ) (n i : ℕ) : Type 0 where
  pub read : digits_after 0 (take i bytes) ≡ Some n
  pub small : n < 10 ^ i

pub number_step : (bytes : List ℕ) (n i : ℕ) → i < length bytes → is_digit (get_or bytes i 0) ≡ true → Numbered bytes n i
    → Numbered bytes (n * 10 + (get_or bytes i 0 - 48)) (i + 1)
number_step bytes n i lt digit so =
    let d = get_or bytes i 0 in
    let few : d - 48 ≤ 9 = digit_small d digit in
    let grows : 10 ^ (i + 1) ≡ 10 * 10 ^ i = pow_grows i in
    record {
      read = ap (digits_after 0) (take_more bytes i 0 lt) ∙ push (take i bytes) 0 n d digit so.read;
      small = omega (arith, so.small, few, grows);
    }

led_number : (bytes : List ℕ) (n i max : ℕ) → 0 < i → i < length bytes → (get_or bytes 0 0 ≡ 48 → ⊥) → n ≤ max
    → digits_after 0 (take i bytes) ≡ Some n → decimal_of max (take i bytes) ≡ Some n
led_number [] n i max some lt lead le h = absurd (omega arith)
led_number (b ∷ bs) n zero max some lt lead le h = absurd (omega arith)
led_number (b ∷ bs) n (suc i) max some lt lead le h =
    let other : (b == 48) ≡ false = grind arith in
    led b (take i bs) max other ∙ ap (option_and_then (up_to max)) h ∙ within max n le

pub number_led : (bytes : List ℕ) (n i : ℕ) → 0 < i → i ≤ 18 → i < length bytes → get_or bytes i 0 ≡ 32 → (get_or bytes 0 0 ≡ 48 → ⊥) → Numbered bytes n i
    → LeadsWith bytes n i
number_led bytes n i some few lt blank lead so =
    let room = has_room n i 0 so.small (omega arith) (omega arith) in
    record {
      long = lt;
      blank = blank;
      digits = so.read;
      small = omega (arith, room);
      number = λ max le. led_number bytes n i max some lt lead le so.read;
    }

pub zero_led : (bytes : List ℕ) → 1 < length bytes → get_or bytes 0 0 ≡ 48 → get_or bytes 1 0 ≡ 32 → LeadsWith bytes 0 1
zero_led [] lt lead blank = absurd (omega arith)
zero_led (b ∷ bs) lt lead blank =
    record {
      long = lt;
      blank = blank;
      digits = ap (λ d. digits_after 0 (d ∷ [])) lead;
      small = omega arith;
      number = λ max le. ap (λ d. decimal_of max (d ∷ [])) lead ∙ within max 0 (omega arith);
    }

-- ---- what isn't in a field

both : (b : Bool) (o : Option ℕ) (v : ℕ) → cond b o None ≡ Some v → (b ≡ true) × (o ≡ Some v)
both true o v h = (refl, h)
both false o v h = cc

digits_clear : (p : ℕ → Bool) → ((d : ℕ) → is_digit d ≡ true → p d ≡ false) → (ds : List ℕ) (a v : ℕ) → digits_after a ds ≡ Some v
    → list_any p ds ≡ false
digits_clear p clear [] a v h = refl
digits_clear p clear (d ∷ ds) a v h =
    let parts = both (is_digit d) (digits_after (a * 10 + (d - 48)) ds) v h in
    false_or (p d) (list_any p ds) (clear d parts.0) (digits_clear p clear ds (a * 10 + (d - 48)) v parts.1)

no_blank-digits : (ds : List ℕ) (v : ℕ) → digits_after 0 ds ≡ Some v → list_any is_blank ds ≡ false
no_blank-digits ds v = digits_clear is_blank (λ d h. grind arith) ds 0 v

no_end-digits : (ds : List ℕ) (v : ℕ) → digits_after 0 ds ≡ Some v → list_any is_end ds ≡ false
no_end-digits ds v = digits_clear is_end (λ d h. grind arith) ds 0 v

ok_of : (r : Result (List ℕ) FromHexError) (bytes : List ℕ) → result_ok r ≡ Some bytes → IsOk r
ok_of (Ok x) bytes h = refl
ok_of (Err e) bytes h = cc

no_end-hex : (n : ℕ) (text bytes : List ℕ) → hex_of n text ≡ Some bytes → list_any is_end text ≡ false
no_end-hex n text bytes hex =
    no_end-all text (λ k low high is.
    let all = ((IsOk-decode_sized text n).0 (ok_of (decode_sized text n) bytes hex)).1 in
    let digit : is_some (hex_digit_value (slice_index text k)) ≡ true = all k 0 high in
    let byte : slice_index text k ≡ 10 = eqb-true (slice_index text k) 10 is in
    cc (digit, byte))

-- ---- a line

arrival_line : (ds text header : List ℕ) (conn : ℕ) → list_any is_blank ds ≡ false → decimal_of 65535 ds ≡ Some conn → hex_of 48 text ≡ Some header
    → line_of (67 ∷ 32 ∷ (ds ++ 32 ∷ text)) ≡ Some (line.Event (Arrive conn header))
arrival_line ds text header conn clear number hex =
    ap (option_map line.Event) (ap₂ (λ f b. option_and_then (λ cid. option_map (λ h. Arrive cid h) (hex_of 48 b)) (decimal_of 65535 f)) (text_before ds text clear) (text_after ds text clear)
    ∙ ap (option_and_then (λ cid. option_map (λ h. Arrive cid h) (hex_of 48 text))) number
    ∙ ap (option_map (λ h. Arrive conn h)) hex)

completion_line : (ds text : List ℕ) (ticket status : ℕ) → list_any is_blank ds ≡ false → decimal_of (2 ^ 64 - 1) ds ≡ Some ticket
    → hex_of 1 text ≡ Some (status ∷ []) → line_of (68 ∷ 32 ∷ (ds ++ 32 ∷ text)) ≡ Some (line.Event (Done ticket status))
completion_line ds text ticket status clear number hex =
    ap (option_map line.Event) (ap₂ (λ f b. option_and_then (λ t. option_map (λ s. Done t (slice_index s 0)) (hex_of 1 b)) (decimal_of (2 ^ 64 - 1) f)) (text_before ds text clear) (text_after ds text clear)
    ∙ ap (option_and_then (λ t. option_map (λ s. Done t (slice_index s 0)) (hex_of 1 text))) number
    ∙ ap (option_map (λ s. Done ticket (slice_index s 0))) hex)

-- the bytes up to some place behind the number
front : (bytes : List ℕ) (n count k : ℕ) → LeadsWith bytes n count
    → take (count + 1 + k) bytes ≡ take count bytes ++ 32 ∷ take k (drop (count + 1) bytes)
front bytes n count k h =
    let rest : List ℕ = drop (count + 1) bytes in
    let whole : bytes ≡ take count bytes ++ 32 ∷ rest =
    sym (take-append-drop count bytes) ∙ ap (λ l. take count bytes ++ l) (drop_more bytes count 0 h.long ∙ ap (λ b. b ∷ rest) h.blank) in
    let end : count + 1 + k ≡ length (take count bytes) + suc k = omega (arith, length-take count bytes, h.long) in
    ap₂ take end whole ∙ take-append-add (take count bytes) (32 ∷ rest) (suc k)

-- bytes that begin with a letter and a blank
record Opens (bytes : List ℕ) (letter : ℕ) : Type 0 where
  letter_is : get_or bytes 0 0 ≡ letter
  blank_is : get_or bytes 1 0 ≡ 32
  some : 1 < length bytes

opened : (bytes : List ℕ) (letter k : ℕ) → Opens bytes letter → take (k + 2) bytes ≡ letter ∷ 32 ∷ take k (drop 2 bytes)
opened [] letter k h = absurd (let bad = h.some in omega arith)
opened (a ∷ []) letter k h = absurd (let bad = h.some in omega arith)
opened (a ∷ b ∷ rest) letter k h =
    let two : k + 2 ≡ suc (suc k) = omega arith in
    ap (λ n. take n (a ∷ b ∷ rest)) two ∙ ap₂ (λ x y. x ∷ y ∷ take k rest) h.letter_is h.blank_is

opened_at : (bytes : List ℕ) (letter k : ℕ) → Opens bytes letter → slice_index bytes (k + 2) ≡ slice_index (drop 2 bytes) k
opened_at [] letter k h = absurd (let bad = h.some in omega arith)
opened_at (a ∷ []) letter k h = absurd (let bad = h.some in omega arith)
opened_at (a ∷ b ∷ rest) letter k h = let two : k + 2 ≡ suc (suc k) = omega arith in ap (slice_index (a ∷ b ∷ rest)) two

opened_length : (bytes : List ℕ) (letter : ℕ) → Opens bytes letter → length bytes ≡ length (drop 2 bytes) + 2
opened_length [] letter h = absurd (let bad = h.some in omega arith)
opened_length (a ∷ []) letter h = absurd (let bad = h.some in omega arith)
opened_length (a ∷ b ∷ rest) letter h = omega arith

-- the first line of these bytes, behind whose number and blank come k bytes and a line end
record IsFirst (bytes : List ℕ) (letter n count k : ℕ) : Type 0 where
  opens : Opens bytes letter
  leads : LeadsWith (drop 2 bytes) n count
  long : count + 1 + k < length (drop 2 bytes)
  short : count + 1 + k ≤ 254
  end : slice_index (drop 2 bytes) (count + 1 + k) ≡ 10

first_says : (bytes : List ℕ) (letter n count k : ℕ) (e : Event) → IsFirst bytes letter n count k → is_end letter ≡ false
    → list_any is_end (take k (drop (count + 1) (drop 2 bytes))) ≡ false
    → line_of (letter ∷ 32 ∷ (take count (drop 2 bytes) ++ 32 ∷ take k (drop (count + 1) (drop 2 bytes)))) ≡ Some (line.Event e)
    → FirstSays bytes (count + 1 + k + 2) e
first_says bytes letter n count k e h other clear said =
    let rest : List ℕ = drop 2 bytes in
    let text : List ℕ = take k (drop (count + 1) rest) in
    let whole : take (count + 1 + k + 2) bytes ≡ letter ∷ 32 ∷ (take count rest ++ 32 ∷ text) =
    opened bytes letter (count + 1 + k) h.opens ∙ ap (λ l. letter ∷ 32 ∷ l) (front rest n count k h.leads) in
    record {
      long = omega (arith, h.long, opened_length bytes letter h.opens);
      short = omega (arith, h.short);
      end = ap is_end (opened_at bytes letter (count + 1 + k) h.opens ∙ h.end);
      said = ap line_of whole ∙ said;
      one = ap (list_any is_end) whole
          ∙ false_or (is_end letter) _ other (no_end-append (take count rest) (32 ∷ text) (no_end-digits (take count rest) n h.leads.digits) clear);
    }

pub arrival_first : (bytes rest header : List ℕ) (conn count k size : ℕ) → rest ≡ drop 2 bytes → 1 < length bytes → get_or bytes 0 0 ≡ 67 → get_or bytes 1 0 ≡ 32
    → LeadsWith rest conn count → conn ≤ 65535 → count ≤ 5 → k ≡ 96 → count + 1 + k < length rest → get_or rest (count + 1 + k) 0 ≡ 10
    → hex_of 48 (take k (drop (count + 1) rest)) ≡ Some header → size ≡ count + 1 + k + 2 → FirstSays bytes size (Arrive conn header)
arrival_first bytes rest header conn count k size is some letter blank leads small few hundred long end hex whole =
    let opens : Opens bytes 67 = record { letter_is = letter; blank_is = blank; some = some } in
    let number : LeadsWith (drop 2 bytes) conn count = rw is at leads in
    let digits : hex_of 48 (take k (drop (count + 1) (drop 2 bytes))) ≡ Some header = rw is at hex in
    let first : IsFirst bytes 67 conn count k = record {
      opens = opens;
      leads = number;
      long = rw is at long;
      short = omega arith;
      end = rw is at end;
    } in
    let clear = no_blank-digits (take count (drop 2 bytes)) conn number.digits in
    rw whole (first_says bytes 67 conn count k (Arrive conn header) first refl
    (no_end-hex 48 (take k (drop (count + 1) (drop 2 bytes))) header digits)
    (arrival_line (take count (drop 2 bytes)) _ header conn clear (number.number 65535 small) digits))

two_bytes : (xs : List ℕ) (i : ℕ) → i + 1 < length xs → take 2 (drop i xs) ≡ get_or xs i 0 ∷ get_or xs (i + 1) 0 ∷ []
two_bytes xs i lt = rw (drop_more xs i 0 (omega arith), drop_more xs (i + 1) 0 lt) refl

pub completion_first : (bytes rest : List ℕ) (ticket status count size : ℕ) → rest ≡ drop 2 bytes → 23 < length bytes → get_or bytes 0 0 ≡ 68 → get_or bytes 1 0 ≡ 32
    → LeadsWith rest ticket count → count ≤ 18 → get_or rest (count + 3) 0 ≡ 10
    → hex_of 1 (get_or rest (count + 1) 0 ∷ get_or rest (count + 2) 0 ∷ []) ≡ Some (status ∷ []) → size ≡ count + 5 → FirstSays bytes size (Done ticket status)
completion_first bytes rest ticket status count size is long letter blank leads few end hex whole =
    let opens : Opens bytes 68 = record { letter_is = letter; blank_is = blank; some = omega arith } in
    let number : LeadsWith (drop 2 bytes) ticket count = rw is at leads in
    let more : length bytes ≡ length (drop 2 bytes) + 2 = opened_length bytes 68 opens in
    let second : count + 1 + 1 ≡ count + 2 = omega arith in
    let pair : take 2 (drop (count + 1) (drop 2 bytes)) ≡ get_or rest (count + 1) 0 ∷ get_or rest (count + 2) 0 ∷ [] =
    two_bytes (drop 2 bytes) (count + 1) (omega arith) ∙ ap₂ (λ (r : List ℕ) j. get_or r (count + 1) 0 ∷ get_or r j 0 ∷ []) (sym is) second in
    let digits : hex_of 1 (take 2 (drop (count + 1) (drop 2 bytes))) ≡ Some (status ∷ []) = ap (hex_of 1) pair ∙ hex in
    let three : count + 1 + 2 ≡ count + 3 = omega arith in
    let five : count + 1 + 2 + 2 ≡ count + 5 = omega arith in
    let first : IsFirst bytes 68 ticket count 2 = record {
      opens = opens;
      leads = number;
      long = omega arith;
      short = omega arith;
      end = ap₂ (λ (r : List ℕ) j. get_or r j 0) (sym is) three ∙ end;
    } in
    let clear = no_blank-digits (take count (drop 2 bytes)) ticket number.digits in
    rw (whole, ← five) (first_says bytes 68 ticket count 2 (Done ticket status) first refl
    (no_end-hex 1 (take 2 (drop (count + 1) (drop 2 bytes))) (status ∷ []) digits)
    (completion_line (take count (drop 2 bytes)) _ ticket status clear (number.number (2 ^ 64 - 1) (omega (arith, number.small))) digits))

-- ---- a digit and a blank, as one number

pub one_led : (bytes : List ℕ) (n : ℕ) → 1 < length bytes → n ≡ (get_or bytes 0 0 + 256 * get_or bytes 1 0 + (65536 - 8240)) % 65536
    → get_or bytes 0 0 < 256 → get_or bytes 1 0 < 256 → n < 10 → LeadsWith bytes n 1
one_led bytes n lt is a b few =
    let blank : get_or bytes 1 0 ≡ 32 = omega (arith, is) in
    let low : get_or bytes 0 0 ≡ 48 + n = omega (arith, is) in
    elim (cases_lt 0 n) [
      | inl some ↦ (
          let digit : is_digit (get_or bytes 0 0) ≡ true = grind (arith) in
          let none : Numbered bytes 0 0 = record { read = refl; small = omega arith } in
          let one = number_step bytes 0 0 (omega arith) digit none in
          let same : 0 * 10 + (get_or bytes 0 0 - 48) ≡ n = omega arith in
          number_led bytes n 1 (omega arith) (omega arith) lt blank (λ is_zero. absurd (omega arith)) (rw same at one)
          )
      | inr low_is ↦ (
          let e : n ≡ 0 = omega arith in
          rw e (zero_led bytes lt (omega arith) blank)
          )
    ]
