-- A text `YYYY-MM-DDTHH:MM:SS.mmmZ` is the text of the moment that it names.
use Rattle.std.proofs.Common.{◌≡◌, ℕ, ◌+◌, ◌*◌, ◌/◌, ◌%◌, ◌<◌, ◌≤◌, Bool, true, List, [], ◌∷◌, ◌++◌, get_or, length, take, drop, Option, Some, Result, Ok, refl, sym, ap, subst, ◌∙◌, append_assoc, arith, ltb, pos, codes, option_and_then, slice_index, ◌&&◌, ◌==◌, length-take-le, length-drop}
use Rattle.std.proofs.lemmas.Bool.{and_parts, eqb-true, ltb-true}
use Rattle.jiff_core.specs.Calendar.{IsCivilDate}
use Rattle.n2k_wire.specs.Calendar.{day_number, is_date, year_of, month_of, day_of_month}
use Rattle.n2k_wire.specs.Digits.{decimal_digit, decimal_after, decimal_number}
use Rattle.n2k_wire.specs.Stamp.{Moment, two_digits, four_digits, millis_digits, date_text, time_text, utc_text, has_utc_form, number_at, day_at_start, second_after_date, utc_moment}
use Rattle.n2k_wire.specs.Steps.{◌>>=◌, or_cause, some_if}
use Rattle.n2k_wire.specs.Inner.Stamp.{IsMoment}
use Rattle.n2k_wire.proofs.CalendarLemmas.{IsDateOf, date_of_number, to_last_day}
use Rattle.n2k_wire.proofs.TextLemmas.{listed, listed_all}

-- ---- steps that found something

-- a consequence of the first step's value
pub with_some : {A B : Type 0} {P : Type 0} (o : Option A) (f : A → Option B) (y : B) → option_and_then f o ≡ Some y → ((x : A) → o ≡ Some x → f x ≡ Some y → P) → P
with_some o f y e follows = grind arith

pub with_ok : {A B E : Type 0} {P : Type 0} (r : Result A E) (f : A → Result B E) (y : B) → (r >>= f) ≡ Ok y → ((x : A) → r ≡ Ok x → f x ≡ Ok y → P) → P
with_ok r f y e follows = grind arith

pub found : {A E : Type 0} (cause : E) (o : Option A) (x : A) → or_cause cause o ≡ Ok x → o ≡ Some x
found cause o x e = grind arith

pub if_some : {A : Type 0} (test : Bool) (x y : A) → some_if test x ≡ Some y → (test ≡ true) × (x ≡ y)
if_some test x y e = grind arith

-- ---- digits

-- a digit and its value
digit_is : (b d : ℕ) → decimal_digit b ≡ Some d → (b ≡ 48 + d) × (d < 10)
unfolding decimal_digit
digit_is b d e = grind arith

-- one digit, then the others
pub after_cons : (before b n : ℕ) (digits : List ℕ) → decimal_after before (b ∷ digits) ≡ Some n → (d : ℕ) × (b ≡ 48 + d) × (d < 10) × (decimal_after (10 * before + d) digits ≡ Some n)
unfolding decimal_after
after_cons before b n digits e = grind (arith, digit_is)

pub after_nil : (before n : ℕ) → decimal_after before [] ≡ Some n → before ≡ n
unfolding decimal_after
after_nil before n e = cc

-- the digits of a number that was read
pub number_parts : (most n : ℕ) (text : List ℕ) → decimal_number most text ≡ Some n → (length text ≤ most) × (decimal_after 0 text ≡ Some n)
unfolding decimal_number
number_parts most n text e = grind arith

two_back : (n : ℕ) (text : List ℕ) → length text ≡ 2 → decimal_after 0 text ≡ Some n → (two_digits n ≡ text) × (n < 100)
unfolding listed
two_back n text two e = grind (arith, listed_all 2 0 text two, after_cons, after_nil)

pub three_back : (n : ℕ) (text : List ℕ) → length text ≡ 3 → decimal_after 0 text ≡ Some n → (millis_digits n ≡ text) × (n < 1000)
unfolding listed
three_back n text three e = grind (arith, listed_all 3 0 text three, after_cons, after_nil)

four_back : (n : ℕ) (text : List ℕ) → length text ≡ 4 → decimal_after 0 text ≡ Some n → (four_digits n ≡ text) × (n < 10000)
unfolding listed
four_back n text four e = grind (arith, listed_all 4 0 text four, after_cons, after_nil)

-- ---- a text of 24 bytes, part by part

length_at : (place digits : ℕ) (text : List ℕ) → place + digits ≤ length text → length (take digits (drop place text)) ≡ digits
length_at place digits text within = length-take-le digits (drop place text) (omega (arith, length-drop place text))

-- each of eight tests that hold
pub eight : (a b c d e f g h : Bool) → (a && b && c && d && e && f && g && h) ≡ true → (a ≡ true) × (b ≡ true) × (c ≡ true) × (d ≡ true) × (e ≡ true) × (f ≡ true) × (g ≡ true) × (h ≡ true)
eight a b c d e f g h all = grind arith

-- the parts of a text in the form of a stamp
module _ (text : List ℕ) (form : has_utc_form text ≡ true) where
  tests : ((length text == 24) ≡ true) × ((slice_index text 4 == 45) ≡ true) × ((slice_index text 7 == 45) ≡ true) × ((slice_index text 10 == 84) ≡ true) × ((slice_index text 13 == 58) ≡ true) × ((slice_index text 16 == 58) ≡ true) × ((slice_index text 19 == 46) ≡ true) × ((slice_index text 23 == 90) ≡ true)
  tests = eight _ _ _ _ _ _ _ _ form

  pub long : length text ≡ 24
  long = eqb-true (length text) 24 tests.0

  abbrev Parts : List ℕ → List ℕ
  Parts t = take 4 (drop 0 t) ++ (45 ∷ (take 2 (drop 5 t) ++ (45 ∷ (take 2 (drop 8 t) ++ (84 ∷ (take 2 (drop 11 t) ++ (58 ∷ (take 2 (drop 14 t) ++ (58 ∷ (take 2 (drop 17 t) ++ (46 ∷ (take 3 (drop 20 t) ++ (90 ∷ [])))))))))))))

  pub whole : text ≡ Parts text
  unfolding listed
  whole =
      let each = listed_all 24 0 text long in
      let at : (place b : ℕ) → (slice_index text place == b) ≡ true → get_or text place 0 ≡ b = λ place b same. eqb-true (slice_index text place) b same in
      each ∙ (rw (at 4 45 tests.1, at 7 45 tests.2, at 10 84 tests.3, at 13 58 tests.4, at 16 58 tests.5, at 19 46 tests.6, at 23 90 tests.7) refl) ∙ ap Parts (sym each)

  -- numbers in their places, as digits
  pub two_at : (place n : ℕ) → place + 2 ≤ 24 → number_at place 2 text ≡ Some n → (two_digits n ≡ take 2 (drop place text)) × (n < 100)
  two_at place n within e = two_back n (take 2 (drop place text)) (length_at place 2 text (omega (arith, long))) (number_parts 2 n _ e).1

  pub three_at : (place n : ℕ) → place + 3 ≤ 24 → number_at place 3 text ≡ Some n → (millis_digits n ≡ take 3 (drop place text)) × (n < 1000)
  three_at place n within e = three_back n (take 3 (drop place text)) (length_at place 3 text (omega (arith, long))) (number_parts 3 n _ e).1

  pub four_at : (place n : ℕ) → place + 4 ≤ 24 → number_at place 4 text ≡ Some n → (four_digits n ≡ take 4 (drop place text)) × (n < 10000)
  four_at place n within e = four_back n (take 4 (drop place text)) (length_at place 4 text (omega (arith, long))) (number_parts 4 n _ e).1

-- ---- dates and times

civil_of : (y m d : ℕ) → y < 10000 → is_date y m d ≡ true → (1970 ≤ y) × IsCivilDate (pos y) m d
civil_of y m d few date = grind arith

-- texts of dates and times by their numbers
date_by : (day y m d : ℕ) → year_of day ≡ y → month_of day ≡ m → day_of_month day ≡ d → date_text day ≡ four_digits y ++ codes "-" ++ two_digits m ++ codes "-" ++ two_digits d
date_by day y m d ey em ed = ap (λ n. four_digits n ++ codes "-" ++ two_digits (month_of day) ++ codes "-" ++ two_digits (day_of_month day)) ey ∙ ap (λ n. four_digits y ++ codes "-" ++ two_digits n ++ codes "-" ++ two_digits (day_of_month day)) em ∙ ap (λ n. four_digits y ++ codes "-" ++ two_digits m ++ codes "-" ++ two_digits n) ed

time_by : (second h m s : ℕ) → second / 3600 ≡ h → second / 60 % 60 ≡ m → second % 60 ≡ s → time_text second ≡ two_digits h ++ codes ":" ++ two_digits m ++ codes ":" ++ two_digits s
time_by second h m s eh em es = ap (λ n. two_digits n ++ codes ":" ++ two_digits (second / 60 % 60) ++ codes ":" ++ two_digits (second % 60)) eh ∙ ap (λ n. two_digits h ++ codes ":" ++ two_digits n ++ codes ":" ++ two_digits (second % 60)) em ∙ ap (λ n. two_digits h ++ codes ":" ++ two_digits m ++ codes ":" ++ two_digits n) es

three_parts : (mark : List ℕ) (a b c x y z : List ℕ) → a ≡ x → b ≡ y → c ≡ z → a ++ mark ++ b ++ mark ++ c ≡ x ++ mark ++ y ++ mark ++ z
three_parts mark a b c x y z ea eb ec = rw (ea, eb, ec) refl

texts : (a b c x y z : List ℕ) → a ≡ x → b ≡ y → c ≡ z → a ++ codes "T" ++ b ++ codes "." ++ c ++ codes "Z" ≡ x ++ codes "T" ++ y ++ codes "." ++ z ++ codes "Z"
texts a b c x y z ea eb ec = rw (ea, eb, ec) refl

same_pos : (a b : ℕ) → pos a ≡ pos b → a ≡ b
same_pos a b e = cc

module _ (text : List ℕ) (form : has_utc_form text ≡ true) where
  abbrev DateStands : ℕ → Type 0
  DateStands day = (date_text day ≡ take 4 (drop 0 text) ++ codes "-" ++ take 2 (drop 5 text) ++ codes "-" ++ take 2 (drop 8 text)) × (day ≤ 2_932_896)

  date_found : (y m d day : ℕ) → number_at 0 4 text ≡ Some y → number_at 5 2 text ≡ Some m → number_at 8 2 text ≡ Some d
      → some_if (is_date y m d) (day_number y m d) ≡ Some day → DateStands day
  date_found y m d day ey em ed e =
      let found = if_some (is_date y m d) (day_number y m d) day e in
      let years = four_at text form 0 y (omega arith) ey in
      let months = two_at text form 5 m (omega arith) em in
      let days = two_at text form 8 d (omega arith) ed in
      let civil = civil_of y m d years.1 found.0 in
      let date : IsDateOf day (pos y) m d = subst (λ n. IsDateOf n (pos y) m d) found.1 (date_of_number y m d civil.0 civil.1) in
      let year_is : year_of day ≡ y = sym (same_pos y (year_of day) date.year_is) in
      let month_is : month_of day ≡ m = sym date.month_is in
      let day_is : day_of_month day ≡ d = sym date.day_is in (
        date_by day y m d year_is month_is day_is ∙ three_parts (codes "-") _ _ _ _ _ _ years.0 months.0 days.0,
        subst (λ n. n ≤ 2_932_896) found.1 (to_last_day y m d civil.0 civil.1),
      )

  -- the date at the start
  pub date_back : (day : ℕ) → day_at_start text ≡ Some day → DateStands day
  unfolding day_at_start
  date_back day e =
      with_some (number_at 0 4 text) _ day e (λ y ey more. with_some (number_at 5 2 text) _ day more (λ m em most. with_some (number_at 8 2 text) _ day most (λ d ed last. date_found y m d day ey em ed last)))

  abbrev TimeStands : ℕ → Type 0
  TimeStands second = (time_text second ≡ take 2 (drop 11 text) ++ codes ":" ++ take 2 (drop 14 text) ++ codes ":" ++ take 2 (drop 17 text)) × (second < 86400)

  time_found : (h m s second : ℕ) → number_at 11 2 text ≡ Some h → number_at 14 2 text ≡ Some m → number_at 17 2 text ≡ Some s
      → some_if (ltb h 24 && ltb m 60 && ltb s 60) (h * 3600 + m * 60 + s) ≡ Some second → TimeStands second
  time_found h m s second eh em es e =
      let found = if_some (ltb h 24 && ltb m 60 && ltb s 60) (h * 3600 + m * 60 + s) second e in
      let outer = and_parts (ltb h 24 && ltb m 60) (ltb s 60) found.0 in
      let inner = and_parts (ltb h 24) (ltb m 60) outer.0 in
      let h_small = ltb-true h 24 inner.0 in
      let m_small = ltb-true m 60 inner.1 in
      let s_small = ltb-true s 60 outer.1 in
      let sum : h * 3600 + m * 60 + s ≡ second = found.1 in
      let hours : second / 3600 ≡ h = omega (arith, sum, m_small, s_small) in
      let minutes : second / 60 % 60 ≡ m = omega (arith, sum, m_small, s_small) in
      let seconds : second % 60 ≡ s = omega (arith, sum, s_small) in
      let a = two_at text form 11 h (omega arith) eh in
      let b = two_at text form 14 m (omega arith) em in
      let c = two_at text form 17 s (omega arith) es in (
        time_by second h m s hours minutes seconds ∙ three_parts (codes ":") _ _ _ _ _ _ a.0 b.0 c.0,
        omega (arith, sum, h_small, m_small, s_small),
      )

  -- the time of the day
  pub time_back : (second : ℕ) → second_after_date text ≡ Some second → TimeStands second
  unfolding second_after_date
  time_back second e =
      with_some (number_at 11 2 text) _ second e (λ h eh more. with_some (number_at 14 2 text) _ second more (λ m em most. with_some (number_at 17 2 text) _ second most (λ s es last. time_found h m s second eh em es last)))

-- the parts, grouped to the right
grouped : (y m d h n s f : List ℕ)
    → ((y ++ codes "-" ++ m ++ codes "-" ++ d) ++ codes "T" ++ (h ++ codes ":" ++ n ++ codes ":" ++ s) ++ codes "." ++ f ++ codes "Z")
    ≡ y ++ (45 ∷ (m ++ (45 ∷ (d ++ (84 ∷ (h ++ (58 ∷ (n ++ (58 ∷ (s ++ (46 ∷ (f ++ (90 ∷ [])))))))))))))
grouped y m d h n s f = simp append_assoc

-- the parts of a moment that is in a text
found_parts : (text : List ℕ) (seen : Moment) (day second millis : ℕ) → has_utc_form text ≡ true → day_at_start text ≡ Some day → second_after_date text ≡ Some second
    → number_at 20 3 text ≡ Some millis → day * 86400 + second ≡ seen.seconds → millis ≡ seen.millis → (utc_text seen ≡ text) × IsMoment seen
unfolding utc_text
found_parts text seen day second millis form ed es em seconds fraction = grind (arith, date_back text form day ed, time_back text form second es, three_at text form 20 millis (omega arith) em, whole text form)

pub moment_is : (seen : Moment) (seconds millis : ℕ) → Some (record { seconds = seconds; millis = millis }) ≡ Some seen → (seconds ≡ seen.seconds) × (millis ≡ seen.millis)
moment_is seen seconds millis e = let same : (record { seconds = seconds; millis = millis }) ≡ seen = cc in (ap (λ (m : Moment). m.seconds) same, ap (λ (m : Moment). m.millis) same)

-- the text of the moment that a text names
pub utc_back : (text : List ℕ) (seen : Moment) → utc_moment text ≡ Some seen → (utc_text seen ≡ text) × IsMoment seen
unfolding utc_moment
utc_back text seen e =
    with_some (some_if (has_utc_form text) text) _ seen e (λ f ef e1.
    with_some (day_at_start text) _ seen e1 (λ day ed e2.
    with_some (second_after_date text) _ seen e2 (λ second es e3.
    with_some (number_at 20 3 text) _ seen e3 (λ millis em e4.
    let is = moment_is seen (day * 86400 + second) millis e4 in
    found_parts text seen day second millis (if_some (has_utc_form text) text f ef).0 ed es em is.0 is.1))))
