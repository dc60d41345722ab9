-- The mean wait of the senders: document 02, R-1. A whole quotient with its exact remainder over the count; and rounded to a whole tick: R-9.
use Rattle.std.specs.Prelude.{ℕ, zero, suc, ◌+◌, ◌/◌, ◌%◌, cond, ltb}

-- none where there were no messages, else the quotient, the remainder and the count
pub data Mean : Type 0 where
  none : Mean
  over : ℕ → ℕ → ℕ → Mean

unfoldable pub mean_of : ℕ → ℕ → Mean
mean_of total zero = none
mean_of total (suc n) = over (total / suc n) (total % suc n) (suc n)

-- R-9: a remainder of less than half the count leaves the quotient, one of more adds 1; exactly at the half it is the even one of these two
unfoldable pub rounded : ℕ → ℕ → ℕ → ℕ
rounded q r n = cond (ltb (r + r) n) q (cond (ltb n (r + r)) (suc q) (q + q % 2))
