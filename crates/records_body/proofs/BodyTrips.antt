-- A body's bytes: what is stored, how many they are, and both ways between them and the numbers. Assumes nothing.
use Prim.Native.Nat.{ℕ, zero, suc, ◌+◌, ◌/◌, ◌%◌, ◌≤◌}
use mathlib.Core.Path.{◌≡◌, refl, sym, ap, ap₂, ◌∙◌}
use mathlib.Core.List.{List, [], ◌∷◌, ◌++◌, append_assoc, append-nil}
use native.Mathlib.Nat.{add-zero, add-suc, suc-add, add_assoc, mod-lt, mod-eq_of_lt, zero-lt-suc}
use native.Mathlib.Omega.{arith}
use lib.ListN.{length, set, take, drop, length-append, length-set, take-append-drop}
use lib.Seq.{length-take-le, take-suc-set, append_snoc, drop-set-lt, take_at, drop_at, drop-drop}
use Rattle.words.specs.Bytes.{AllBytes, number_at, put, stored}
use Rattle.words.proofs.ByteLaws.{bytes_append}
use Rattle.words.proofs.NumberLaws.{number_lt}
use Rattle.words.proofs.StoreLaws.{stored_fits, length_stored, number_stored, stored_number, number_stored_below}
use Rattle.records_body.specs.Body.{size, extent, numbers_at, stored_numbers, bytes_for, body_of}
use Rattle.records_body.specs.Facts.{Fit}

-- ---- a number's bytes

length_for : (n v : ℕ) → length (bytes_for n v) ≡ n
unfolding bytes_for
length_for zero v = refl
length_for (suc n) v = ap suc (length_for n (v / 256))

bytes_for_law : (n v : ℕ) → AllBytes (bytes_for n v)
unfolding bytes_for
bytes_for_law zero v k = omega arith
bytes_for_law (suc n) v zero = mod-lt v (zero-lt-suc 255)
bytes_for_law (suc n) v (suc k) = bytes_for_law n (v / 256) k

-- nothing is put nowhere
whole_none : (xs : List ℕ) (at : ℕ) → xs ≡ take at xs ++ [] ++ drop (at + 0) xs
whole_none xs at = sym (ap₂ (λ (a b : List ℕ). a ++ b) (append-nil (take at xs)) (ap (λ (k : ℕ). drop k xs) (add-zero at)) ∙ take-append-drop at xs)

put_for : (xs : List ℕ) (at n v : ℕ) → at + n ≤ length xs → put xs at n v ≡ take at xs ++ bytes_for n v ++ drop (at + n) xs
unfolding put bytes_for
put_for xs at zero v h = whole_none xs at
put_for xs at (suc n) v h =
    let b : ℕ = v % 256 in
    let ys : List ℕ = set xs at b in
    put_for ys (suc at) n (v / 256) (simp length-set (omega arith))
    ∙ ap₂ (λ (l m : List ℕ). l ++ bytes_for n (v / 256) ++ m) (take-suc-set xs at b (omega arith)) (drop-set-lt (suc at + n) xs at b (omega arith))
    ∙ ap₂ (λ (l : List ℕ) (k : ℕ). l ++ drop k xs) (append_snoc (take at xs) b (bytes_for n (v / 256))) (suc-add at n ∙ sym (add-suc at n))

-- ---- the body's bytes

pub length_body : (ws vs : List ℕ) → length vs ≡ length ws → length (body_of ws vs) ≡ extent ws
unfolding body_of extent
length_body [] vs e = refl
length_body (w ∷ ws) [] e = absurd (omega (arith, e))
length_body (w ∷ ws) (v ∷ vs) e = length-append (bytes_for (size w) v) (body_of ws vs) ∙ ap₂ (λ (a b : ℕ). a + b) (length_for (size w) v) (length_body ws vs (omega (arith, e)))

pub body_bytes : (ws vs : List ℕ) → AllBytes (body_of ws vs)
unfolding body_of
body_bytes [] vs k = omega arith
body_bytes (w ∷ ws) [] k = omega arith
body_bytes (w ∷ ws) (v ∷ vs) k = bytes_append (bytes_for (size w) v) (body_of ws vs) (bytes_for_law (size w) v) (body_bytes ws vs) k

pub stores_whole : (ws vs xs : List ℕ) (at : ℕ) → length vs ≡ length ws → at + extent ws ≤ length xs
    → stored_numbers ws vs xs at ≡ take at xs ++ body_of ws vs ++ drop (at + extent ws) xs
unfolding stored_numbers body_of extent
stores_whole [] vs xs at e h = whole_none xs at
stores_whole (w ∷ ws) [] xs at e h = absurd (omega (arith, e))
stores_whole (w ∷ ws) (v ∷ vs) xs at e h =
    let n : ℕ = size w in
    let m : ℕ = extent ws in
    let front : List ℕ = take at xs ++ bytes_for n v in
    let ys : List ℕ = stored xs at n v in
    let put-there : ys ≡ front ++ drop (at + n) xs = stored_fits xs at n v (omega (arith, h)) ∙ put_for xs at n v (omega (arith, h)) in
    let long : length front ≡ at + n =
    length-append (take at xs) (bytes_for n v) ∙ ap₂ (λ (a b : ℕ). a + b) (length-take-le at xs (omega (arith, h))) (length_for n v) in
    let before : take (at + n) ys ≡ front = ap (take (at + n)) put-there ∙ take_at front (drop (at + n) xs) (at + n) long in
    let after : drop (at + n + m) ys ≡ drop (at + n + m) xs =
    sym (drop-drop m (at + n) ys) ∙ ap (drop m) (ap (drop (at + n)) put-there ∙ drop_at front (drop (at + n) xs) (at + n) long) ∙ drop-drop m (at + n) xs in
    stores_whole ws vs ys (at + n) (omega (arith, e)) (rw length_stored (omega (arith, h)))
    ∙ ap₂ (λ (a b : List ℕ). a ++ body_of ws vs ++ b) before after
    ∙ ap₂ (λ (a : List ℕ) (k : ℕ). a ++ drop k xs) (append_assoc (take at xs) (bytes_for n v) (body_of ws vs)) (add_assoc at n m)

-- ---- both ways

length_numbers : (ws xs : List ℕ) (at : ℕ) → length (numbers_at ws xs at) ≡ length ws
unfolding numbers_at
length_numbers [] xs at = refl
length_numbers (w ∷ ws) xs at = ap suc (length_numbers ws xs (at + size w))

pub fit_many : (ws vs : List ℕ) → Fit ws vs → length vs ≡ length ws
fit_many [] [] f = refl
fit_many [] (v ∷ vs) f = absurd f
fit_many (w ∷ ws) [] f = absurd f
fit_many (w ∷ ws) (v ∷ vs) f = ap suc (fit_many ws vs f.1)

pub numbers_fit : (ws xs : List ℕ) (at : ℕ) → AllBytes xs → Fit ws (numbers_at ws xs at)
unfolding numbers_at
numbers_fit [] xs at b = tt
numbers_fit (w ∷ ws) xs at b = (number_lt xs b at (size w), numbers_fit ws xs (at + size w) b)

-- a number before the body is as it was
stores_below : (ws vs xs : List ℕ) (at q m : ℕ) → q + m ≤ at → number_at (stored_numbers ws vs xs at) q m ≡ number_at xs q m
unfolding stored_numbers
stores_below [] vs xs at q m h = refl
stores_below (w ∷ ws) [] xs at q m h = refl
stores_below (w ∷ ws) (v ∷ vs) xs at q m h =
    stores_below ws vs (stored xs at (size w) v) (at + size w) q m (omega (arith, h)) ∙ number_stored_below xs at (size w) v q m h

pub stores_read : (ws vs xs : List ℕ) (at : ℕ) → Fit ws vs → at + extent ws ≤ length xs → numbers_at ws (stored_numbers ws vs xs at) at ≡ vs
unfolding stored_numbers numbers_at extent
stores_read [] [] xs at f h = refl
stores_read [] (v ∷ vs) xs at f h = absurd f
stores_read (w ∷ ws) [] xs at f h = absurd f
stores_read (w ∷ ws) (v ∷ vs) xs at f h =
    let n : ℕ = size w in
    let ys : List ℕ = stored xs at n v in
    ap₂ (λ (a : ℕ) (l : List ℕ). a ∷ l)
    (stores_below ws vs ys (at + n) at n (omega arith) ∙ number_stored xs at n v (omega (arith, h)) ∙ mod-eq_of_lt f.0)
    (stores_read ws vs ys (at + n) f.1 (rw length_stored (omega (arith, h))))

pub numbers_stored : (ws xs : List ℕ) (at : ℕ) → AllBytes xs → stored_numbers ws (numbers_at ws xs at) xs at ≡ xs
unfolding stored_numbers numbers_at
numbers_stored [] xs at b = refl
numbers_stored (w ∷ ws) xs at b =
    ap (λ (l : List ℕ). stored_numbers ws (numbers_at ws xs (at + size w)) l (at + size w)) (stored_number xs b at (size w)) ∙ numbers_stored ws xs (at + size w) b

-- a body that stands in a list is what storing its numbers there gives
pub body_says : (ws vs xs ys : List ℕ) → Fit ws vs → numbers_at ws (xs ++ body_of ws vs ++ ys) (length xs) ≡ vs
body_says ws vs xs ys f =
    let e : length vs ≡ length ws = fit_many ws vs f in
    let at : ℕ = length xs in
    let front : List ℕ = xs ++ body_of ws vs in
    let zs : List ℕ = front ++ ys in
    let long : length front ≡ at + extent ws = length-append xs (body_of ws vs) ∙ ap (λ (k : ℕ). at + k) (length_body ws vs e) in
    let room : at + extent ws ≤ length zs = rw (length-append front ys) (omega (arith, long)) in
    let before : take at zs ≡ xs = ap (take at) (append_assoc xs (body_of ws vs) ys) ∙ take_at xs (body_of ws vs ++ ys) at refl in
    let stands : stored_numbers ws vs zs at ≡ zs =
    stores_whole ws vs zs at e room ∙ ap₂ (λ (a b : List ℕ). a ++ body_of ws vs ++ b) before (drop_at front ys (at + extent ws) long) in
    ap (λ (l : List ℕ). numbers_at ws l at) (sym stands) ∙ stores_read ws vs zs at f room

pub numbers_body : (ws xs : List ℕ) (at : ℕ) → AllBytes xs → at + extent ws ≤ length xs → body_of ws (numbers_at ws xs at) ≡ take (extent ws) (drop at xs)
numbers_body ws xs at b h =
    let vs : List ℕ = numbers_at ws xs at in
    let body : List ℕ = body_of ws vs in
    let rest : List ℕ = drop (at + extent ws) xs in
    let e : length vs ≡ length ws = length_numbers ws xs at in
    let whole : take at xs ++ body ++ rest ≡ xs = sym (stores_whole ws vs xs at e h) ∙ numbers_stored ws xs at b in
    let from : drop at xs ≡ body ++ rest =
    ap (drop at) (sym whole ∙ append_assoc (take at xs) body rest) ∙ drop_at (take at xs) (body ++ rest) at (length-take-le at xs (omega (arith, h))) in
    sym (ap (take (extent ws)) from ∙ take_at body rest (extent ws) (length_body ws vs e))
