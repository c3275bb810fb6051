-- The messages of a stream are numbered in turn, so eight that follow one another have different keys.
use Rattle.std.proofs.Common.{◌≡◌, ◌==◌, ℕ, zero, suc, ◌+◌, ◌%◌, ◌<◌, Bool, true, false, cond, ◌&&◌, List, [], ◌∷◌, ◌++◌, length, refl, ap, ◌∙◌, subst, arith, count_by, filter, slice_index_or}
use Rattle.std.proofs.lemmas.List.Sums.{sum_by_push}
use Rattle.n2k_wire.specs.Packet.{PacketParts}
use Rattle.n2k_join.specs.Frames.{Key}
use Rattle.n2k_join.specs.Pieces.{Sending, same_stream, stream_of, sequence_after, sendings_after}
use Rattle.n2k_join.specs.Scattered.{key_of_sending}
use Rattle.n2k_join.specs.UnderWay.{is_sent, EightUnderWay, AreOfOneStream}

-- the message is of the stream
abbrev is_of : ℕ → ℕ → ℕ → PacketParts → Bool
is_of src pgn dst m = (m.id.src == src) && ((m.id.pgn == pgn) && (m.id.dst == dst))

-- sendings are numbered in turn, modulo 8
abbrev AreNumbered : ℕ → List Sending → Type 0
AreNumbered n [] = Unit {0}
AreNumbered n (x ∷ xs) = (x.sequence ≡ n % 8) × AreNumbered (n + 1) xs

-- the test of earlier messages by a message of the stream
same_test : (src pgn dst : ℕ) (m : PacketParts) → is_of src pgn dst m ≡ true → (λ (e : PacketParts). same_stream (stream_of e.id) (stream_of m.id)) ≡ is_of src pgn dst
unfolding same_stream
same_test src pgn dst m h = grind arith

numbered : (src pgn dst : ℕ) (earlier ms : List PacketParts) → AreNumbered (count_by (is_of src pgn dst) earlier) (filter (is_sent src pgn dst) (sendings_after earlier ms))
numbered src pgn dst earlier [] = tt
numbered src pgn dst earlier (m ∷ ms) = by (is_of src pgn dst m) refl (numbered src pgn dst (earlier ++ m ∷ []) ms)
  where
    before : ℕ
    before = count_by (is_of src pgn dst) earlier

    rest : List Sending
    rest = filter (is_sent src pgn dst) (sendings_after (earlier ++ m ∷ []) ms)

    counted : (b : Bool) → is_of src pgn dst m ≡ b → count_by (is_of src pgn dst) (earlier ++ m ∷ []) ≡ before + cond b 1 0
    counted b h = sum_by_push (λ e. cond (is_of src pgn dst e) 1 0) earlier m ∙ ap (λ b. before + cond b 1 0) h

    by : (b : Bool) → is_of src pgn dst m ≡ b → AreNumbered (count_by (is_of src pgn dst) (earlier ++ m ∷ [])) rest
        → AreNumbered before (cond b (record { sequence = sequence_after earlier m; message = m } ∷ rest) rest)
    by true h later = (ap (λ (t : PacketParts → Bool). count_by t earlier % 8) (same_test src pgn dst m h), subst (λ n. AreNumbered n rest) (counted true h) later)
    by false h later = let none : count_by (is_of src pgn dst) (earlier ++ m ∷ []) ≡ before = omega (arith, counted false h) in subst (λ n. AreNumbered n rest) none later

past : (n : ℕ) (prefix rest : List Sending) → AreNumbered n (prefix ++ rest) → AreNumbered (n + length prefix) rest
past n [] rest h = let same : n ≡ n + 0 = omega arith in subst (λ k. AreNumbered k rest) same h
past n (x ∷ prefix) rest h = let same : n + 1 + length prefix ≡ n + suc (length prefix) = omega arith in subst (λ k. AreNumbered k rest) same (past (n + 1) prefix rest h.1)

at_place : (n : ℕ) (xs back : List Sending) (i : ℕ) (d : Sending) → AreNumbered n (xs ++ back) → i < length xs → (slice_index_or xs i d).sequence ≡ (n + i) % 8
at_place n [] back i d h l = absurd (omega (arith, l))
at_place n (x ∷ xs) back zero d h l = let same : n ≡ n + 0 = omega arith in h.0 ∙ ap (λ k. k % 8) same
at_place n (x ∷ xs) back (suc i) d h l = let same : n + 1 + i ≡ n + suc i = omega arith in at_place (n + 1) xs back i d h.1 (omega (arith, l)) ∙ ap (λ k. k % 8) same

pub eight_under_way : (ms : List PacketParts) → EightUnderWay ms
eight_under_way ms = record {
  apart = λ src pgn dst prefix next back is few i j d less below same.
      let all : AreNumbered 0 (prefix ++ (next ++ back)) = subst (AreNumbered 0) is (numbered src pgn dst [] ms) in
      let later = past 0 prefix (next ++ back) all in
      let one = at_place (0 + length prefix) next back i d later (omega (arith, less, below)) in
      let other = at_place (0 + length prefix) next back j d later below in
      let equal : (slice_index_or next i d).sequence ≡ (slice_index_or next j d).sequence = ap (λ (k : Key). k.sequence) same in
      omega (arith, one, other, equal, less, below, few);
}

pub one_stream : (x y : Sending) → key_of_sending x ≡ key_of_sending y → AreOfOneStream x y
one_stream x y same = record { src = ap (λ (k : Key). k.src) same; pgn = ap (λ (k : Key). k.pgn) same; dst = ap (λ (k : Key). k.dst) same }
