-- Refusal numbers: the number of each refusal, the test for each line of the table, and what a refusal returns.
-- Assumes nothing.
use Rattle.std.specs.Prelude.{Result, Ok, Err, Bool, ◌||◌, List, [], ◌∷◌, ℕ, ◌+◌, ◌*◌, ◌^◌, leb, ltb}
use Rattle.codes.specs.Codes.{per, up, trailing, pick, strict, place_in, capitals}
use Rattle.codes.specs.declared.refusals.Refusal.{Refusal}
use Rattle.codes.specs.declared.refusals.Refusal.TheVariants.{TooLong, BadStore, BadView, BadRange, BadWord, BadLetter, BadForm, BadStream, NoRoom, Partial}

abbrev pub number : Refusal → ℕ
number TooLong = 1
number BadStore = 2
number BadView = 3
number BadRange = 4
number BadWord = 5
number BadLetter = 6
number BadForm = 7
number BadStream = 8
number NoRoom = 9
number Partial = 10

-- what a call that gives no other number answers
abbrev pub Outcome : Type 0
Outcome = Result (Unit {0}) Refusal

abbrev pub number_of : Outcome → ℕ
number_of (Ok _) = 0
number_of (Err r) = number r

-- a line of the table: whether it holds, and its refusal
abbrev pub Test : Type 0
Test = Bool × Refusal

-- a view's bytes, a store's buffer or a form to be read, n bytes long, exceeds 2^28 bytes
abbrev pub too_long : ℕ → Test
too_long n = (ltb (2 ^ 28) n, TooLong)

-- the bytes of a store's length and 48 more exceed its buffer of n bytes
abbrev pub bad_store : ℕ → ℕ → ℕ → Test
bad_store w n len = (ltb n (up w len + trailing), BadStore)

-- a view's characters and 48 bytes behind exceed its n bytes, in exact arithmetic
abbrev pub bad_view : ℕ → ℕ → ℕ → ℕ → Test
bad_view w n o len = (ltb (n * per w) (o + len + trailing * per w), BadView)

-- an index is not below the length
abbrev pub bad_index : ℕ → ℕ → Test
bad_index len i = (leb len i, BadRange)

-- a slice, an overwrite or a cut ends beyond the length
abbrev pub bad_end : ℕ → ℕ → Test
bad_end len end = (ltb len end, BadRange)

-- a slice starts after its end
abbrev pub bad_start : ℕ → ℕ → Test
bad_start start end = (ltb end start, BadRange)

-- a word's length k lies outside its range
abbrev pub bad_word : ℕ → ℕ → ℕ → Test
bad_word least most k = (ltb k least || ltb most k, BadWord)

-- the strict code of another byte
abbrev pub bad_letter : ℕ → Test
bad_letter x = (leb 4 (strict x), BadLetter)

-- the complement of another byte than a capital letter
abbrev pub bad_capital : ℕ → Test
bad_capital x = (leb 4 (place_in capitals x), BadLetter)

-- a single code above 3
abbrev pub bad_code : ℕ → Test
bad_code c = (ltb 3 c, BadLetter)

-- an output buffer of n bytes is shorter than the answer needs
abbrev pub no_room : ℕ → ℕ → Test
no_room n needed = (ltb n needed, NoRoom)

-- the refusals of a view of n bytes
abbrev pub view_tests : ℕ → ℕ → ℕ → ℕ → List Test
view_tests w n o len = too_long n ∷ bad_view w n o len ∷ []

-- of several that apply, the first
abbrev pub first : List Test → Outcome
first [] = Ok tt
first (t ∷ ts) = pick t.0 (Err t.1) (first ts)

-- what a call gives where it is done, and what where it is refused
abbrev pub if_done : {A : Type 0} → Outcome → A → A → A
if_done (Ok _) a b = a
if_done (Err r) a b = b

-- what a call gives where it is done
abbrev pub giving : {A : Type 0} → Outcome → A → Result A Refusal
giving (Ok _) a = Ok a
giving (Err r) a = Err r

-- an answer: its number, and its other numbers
pub record Answer (A : Type 0) : Type 0 where
  pub no : ℕ
  pub values : A

-- a refusal returns its number, and zero for each other number
abbrev pub answer : {A : Type 0} → Outcome → A → A → Answer A
answer o values zeros = record { no = number_of o; values = if_done o values zeros }
