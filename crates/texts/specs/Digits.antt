-- Numbers in base ten, as bytes: 1 to 10 digits, no leading zero but 0 itself.
use Rattle.std.specs.Prelude.{ℕ, zero, suc, ◌+◌, ◌-◌, ◌*◌, ◌/◌, ◌%◌, List, [], ◌∷◌, ◌++◌, Bool, true, false, cond, not, ◌&&◌, ◌||◌, eqb, ltb, leb}

-- the smallest number of 11 digits
abbrev pub too_long : ℕ
too_long = 10_000_000_000

-- the digits of n, where n is at most k
unfoldable pub decimal_by : ℕ → ℕ → List ℕ
decimal_by zero n = (48 + n) ∷ []
decimal_by (suc k) n = cond (ltb n 10) ((48 + n) ∷ []) (decimal_by k (n / 10) ++ ((48 + n % 10) ∷ []))

-- the digits of n
unfoldable pub decimal : ℕ → List ℕ
decimal n = decimal_by n n

-- a number and the bytes after it, or no number
pub data Number : Type 0 where
  value : ℕ → List ℕ → Number
  bad : Number

-- the byte is a digit
abbrev pub is_digit : ℕ → Bool
is_digit x = leb 48 x && leb x 57

-- a digit may follow: it is the first, or neither a leading 0 nor ten digits stand before it
abbrev pub may_go_on : Bool → ℕ → Bool
may_go_on first v = first || not (eqb v 0) && ltb v 1_000_000_000

-- the number that ends here: none where no digit was read
abbrev pub ended : Bool → ℕ → List ℕ → Number
ended first v l = cond first bad (value v l)

-- the number that begins here (first), or goes on after digits of the value v
unfoldable pub number_from : Bool → ℕ → List ℕ → Number
number_from first v [] = ended first v []
number_from first v (x ∷ l) =
    cond (is_digit x) (cond (may_go_on first v) (number_from false (v * 10 + (x - 48)) l) bad) (ended first v (x ∷ l))

-- the number that these bytes begin with
unfoldable pub number_of : List ℕ → Number
number_of l = number_from true 0 l
