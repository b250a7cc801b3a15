-- A network of swaps: the two halves of each field of b + b bits change places all over a word, at 32, at 16 and so on down, which reverses the word's fields of b bits.
-- Assumes nothing.
use mathlib.Core.Path.{◌≡◌, sym, ap, ap₂, ◌∙◌}
use Prim.Native.Nat.{ℕ, zero, suc, ◌+◌, ◌-◌, ◌*◌, ◌/◌, ◌%◌, ◌^◌, ◌<◌}
use native.Mathlib.Nat.{add-mul, add_assoc, mul_assoc, mul_right_comm, mul-add, mul-suc, zero-mul, suc-add, add-suc}
use native.Mathlib.Nat.{mod-lt, mod-eq_of_lt, lt_of_lt_of_le, lt_of_le_of_lt, le-add_right, mul-le-mul_right}
use lib.Pow.{pow_pos, pow_mono, pow-add, split, high, low, shr-shr, field, mod-mod-pow, ones_lt, shl_lt}
use lib.Bits.{bit_and, bit_or, bit_xor, and_block, or_block, xor_block, and_mask, and_zero_r, or_shifted_r, and_le_r}
use Rattle.codes.specs.Words.{flip, same}
use Rattle.codes.proofs.WordLaws.{flip-step, flip_one, flip-none}

-- the mask for n fields of b + b bits: the b low bits of each
unfoldable pub mask : ℕ → ℕ → ℕ
mask b zero = 0
mask b (suc n) = mask b n * 2 ^ (b + b) + (2 ^ b - 1)

-- the two halves of each of the n low fields of b + b bits change places
swaps : ℕ → ℕ → ℕ → ℕ
swaps b zero y = 0
swaps b (suc n) y = swaps b n (y / 2 ^ (b + b)) * 2 ^ (b + b) + ((y % 2 ^ b) * 2 ^ b + y / 2 ^ b % 2 ^ b)

-- the mask's lowest field keeps the b low bits of y, and the rest of the mask meets the rest of y
pub low_field : (b y e : ℕ) → bit_and y (e * 2 ^ (b + b) + (2 ^ b - 1)) ≡ bit_and (y / 2 ^ (b + b)) e * 2 ^ (b + b) + y % 2 ^ b
low_field b y e =
    ap (λ (n : ℕ). bit_and n (e * 2 ^ (b + b) + (2 ^ b - 1))) (sym (split y (b + b)))
    ∙ and_block (b + b) (y / 2 ^ (b + b)) e (y % 2 ^ (b + b)) (2 ^ b - 1) (mod-lt y (pow_pos (b + b))) (lt_of_lt_of_le (ones_lt b) (pow_mono (le-add_right b b)))
    ∙ ap (λ (n : ℕ). bit_and (y / 2 ^ (b + b)) e * 2 ^ (b + b) + n) (and_mask (y % 2 ^ (b + b)) b ∙ mod-mod-pow y b b)

-- a shift by b and one by b + b, in either order
pub shift_swap : (b y : ℕ) → y / 2 ^ b / 2 ^ (b + b) ≡ y / 2 ^ (b + b) / 2 ^ b
shift_swap b y = shr-shr y b (b + b) ∙ ap (λ (e : ℕ). y / 2 ^ e) (sym (add_assoc b b b)) ∙ sym (shr-shr y (b + b) b)

-- what the program computes is the swap
swap_is : (b n y : ℕ) → bit_or (bit_and (y / 2 ^ b) (mask b n)) (bit_and y (mask b n) * 2 ^ b) ≡ swaps b n y
unfolding mask swaps
swap_is b zero y = rw (and_zero_r (y / 2 ^ b), and_zero_r y, zero-mul)
swap_is b (suc n) y =
    rw (low_field b y (mask b n), low_field b (y / 2 ^ b) (mask b n), shift_swap b y)
    (rw (add-mul (bit_and (y / 2 ^ (b + b)) (mask b n) * 2 ^ (b + b)) (y % 2 ^ b) (2 ^ b), mul_right_comm (bit_and (y / 2 ^ (b + b)) (mask b n)) (2 ^ (b + b)) (2 ^ b))
    (or_block (b + b) _ _ _ _ (lt_of_lt_of_le (mod-lt (y / 2 ^ b) (pow_pos b)) (pow_mono (le-add_right b b))) (shl_lt b b (mod-lt y (pow_pos b)))
    ∙ ap₂ (λ (p q : ℕ). p * 2 ^ (b + b) + q) (swap_is b n (y / 2 ^ (b + b))) (or_shifted_r (y % 2 ^ b) b (y / 2 ^ b % 2 ^ b) (mod-lt (y / 2 ^ b) (pow_pos b)))))

-- the halves of the lowest field
pub low_half : (b h e : ℕ) → (h * 2 ^ (b + b) + e % 2 ^ (b + b)) % 2 ^ b ≡ e % 2 ^ b
low_half b h e =
    sym (mod-mod-pow (h * 2 ^ (b + b) + e % 2 ^ (b + b)) b b) ∙ ap (λ (y : ℕ). y % 2 ^ b) (low h (b + b) (mod-lt e (pow_pos (b + b)))) ∙ mod-mod-pow e b b

pub high_half : (b h e : ℕ) → (h * 2 ^ (b + b) + e % 2 ^ (b + b)) / 2 ^ b % 2 ^ b ≡ e / 2 ^ b % 2 ^ b
high_half b h e =
    sym (field (h * 2 ^ (b + b) + e % 2 ^ (b + b)) b b) ∙ ap (λ (y : ℕ). y / 2 ^ b) (low h (b + b) (mod-lt e (pow_pos (b + b)))) ∙ field e b b

-- a field of b + b bits is two of b
two_fields : (b h p q : ℕ) → h * 2 ^ (b + b) + (p * 2 ^ b + q) ≡ (h * 2 ^ b + p) * 2 ^ b + q
two_fields b h p q =
    sym (add_assoc (h * 2 ^ (b + b)) (p * 2 ^ b) q)
    ∙ ap (λ (y : ℕ). y + q) (ap (λ (y : ℕ). y + p * 2 ^ b) (ap (λ (y : ℕ). h * y) (pow-add 2 b b) ∙ sym (mul_assoc h (2 ^ b) (2 ^ b))) ∙ sym (add-mul (h * 2 ^ b) p (2 ^ b)))

-- fields of b + b bits in reverse, and then each field's halves: fields of b bits in reverse
level : (b n x : ℕ) → swaps b n (flip (b + b) same n x) ≡ flip b same (n + n) x
unfolding swaps
level b zero x = sym (flip-none b same x)
level b (suc n) x =
    ap (swaps b (suc n)) (flip-step (b + b) same n x)
    ∙ ap₂ (λ (p q : ℕ). p * 2 ^ (b + b) + q)
    (ap (swaps b n) (high h (b + b) (mod-lt e (pow_pos (b + b)))) ∙ level b n x)
    (ap₂ (λ (p q : ℕ). p * 2 ^ b + q) (low_half b h e ∙ ap (λ (y : ℕ). y % 2 ^ b) e_is) (high_half b h e ∙ ap (λ (y : ℕ). y % 2 ^ b) (ap (λ (y : ℕ). y / 2 ^ b) e_is ∙ next)))
    ∙ two_fields b (flip b same (n + n) x) (x / 2 ^ (b * (n + n)) % 2 ^ b) (x / 2 ^ (b * m) % 2 ^ b)
    ∙ sym (ap (λ (k : ℕ). flip b same k x) (add-suc (suc n) n ∙ ap suc (suc-add n n)) ∙ flip-step b same m x ∙ ap (λ (y : ℕ). y * 2 ^ b + x / 2 ^ (b * m) % 2 ^ b) (flip-step b same (n + n) x))
  where
    h : ℕ
    h = flip (b + b) same n x

    m : ℕ
    m = suc (n + n)

    e : ℕ
    e = x / 2 ^ ((b + b) * n)

    e_is : e ≡ x / 2 ^ (b * (n + n))
    e_is = ap (λ (k : ℕ). x / 2 ^ k) (add-mul b b n ∙ sym (mul-add b n n))

    next : x / 2 ^ (b * (n + n)) / 2 ^ b ≡ x / 2 ^ (b * suc (n + n))
    next = shr-shr x (b * (n + n)) b ∙ ap (λ (k : ℕ). x / 2 ^ k) (sym (mul-suc b (n + n)))

-- one level as the program computes it, in a machine word of v bits, with its mask m
pub stage : (v b n m x y : ℕ) → mask b n ≡ m → m * 2 ^ b < 2 ^ v → y ≡ flip (b + b) same n x → bit_or (bit_and (y / 2 ^ b) m) (bit_and y m * 2 ^ b % 2 ^ v) ≡ flip b same (n + n) x
stage v b n m x y em l ey =
    ap (bit_or (bit_and (y / 2 ^ b) m)) (mod-eq_of_lt (lt_of_le_of_lt (mul-le-mul_right (2 ^ b) (and_le_r y m)) l))
    ∙ ap (λ (k : ℕ). bit_or (bit_and (y / 2 ^ b) k) (bit_and y k * 2 ^ b)) (sym em)
    ∙ swap_is b n y ∙ ap (swaps b n) ey ∙ level b n x

-- the whole word is one field
pub whole : (b x : ℕ) → x < 2 ^ b → x ≡ flip b same 1 x
whole b x h = sym (flip_one b same x ∙ mod-eq_of_lt h)

-- n fields of w bits, each of them m
unfoldable pub rep : ℕ → ℕ → ℕ → ℕ
rep w m zero = 0
rep w m (suc n) = rep w m n * 2 ^ w + m

-- an exclusive or with the same bits in each field goes into the fields
pub xors : (w m : ℕ) → m < 2 ^ w → (n x : ℕ) → bit_xor (flip w same n x) (rep w m n) ≡ flip w (λ c. bit_xor c m) n x
unfolding rep
xors w m h zero x = ap (λ (y : ℕ). bit_xor y 0) (flip-none w same x) ∙ sym (flip-none w (λ c. bit_xor c m) x)
xors w m h (suc n) x =
    ap (λ (y : ℕ). bit_xor y (rep w m n * 2 ^ w + m)) (flip-step w same n x)
    ∙ xor_block w (flip w same n x) (rep w m n) (x / 2 ^ (w * n) % 2 ^ w) m (mod-lt (x / 2 ^ (w * n)) (pow_pos w)) h
    ∙ ap (λ (y : ℕ). y * 2 ^ w + bit_xor (x / 2 ^ (w * n) % 2 ^ w) m) (xors w m h n x)
    ∙ sym (flip-step w (λ c. bit_xor c m) n x)
