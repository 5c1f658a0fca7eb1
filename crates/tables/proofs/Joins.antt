-- Joins and meets, by rows of bits.
use Rattle.std.proofs.Common.{◌≡◌, ℕ, zero, suc, ◌-◌, ◌+◌, ◌<◌, ◌≤◌, ◌++◌, List, [], length, get_or, drop, replicate, Option, None, Some, refl, sym, ◌∙◌, ap, arith}
use Rattle.std.proofs.Math.Decide.{dec_lt}
use Rattle.std.proofs.Math.Seq.{get_or-append_right}
use Rattle.std.proofs.lemmas.List.{get_or_append_left, get_or-drop}
use Rattle.std.specs.Option.{ok_or}
use lib.Bits.{bit_and}
use Rattle.base.specs.Bits.{Has}
use Rattle.base.proofs.Sets.{has_and, same_set}
use Rattle.labels.specs.Order.{Least, Joins}
use Rattle.labels.specs.declared.fault.KindFault.TheVariants.{NoMeetOrJoin}
use Rattle.tables.specs.Rows.{Marked, matrix, entry, Inside, PartialOrder, LabelOf, JoinRow, JoinsAll, Joined, under}
use Rattle.tables.proofs.Matrix.{zeros_at}

-- j is the join of a and b when the labels at or above j are those at or above both
module _ (n : ℕ) (rows : List ℕ) (inside : Inside n rows) (ordered : PartialOrder (matrix n rows)) where
  pub row_join : (a b j : ℕ) → j < n → get_or rows j 0 ≡ bit_and (get_or rows a 0) (get_or rows b 0) → Least (matrix n rows) a b j
  row_join a b j l e =
      let self = (has_and (get_or rows a 0) (get_or rows b 0) j).0 (rw e at (ordered.reflexive j l).order) in
      record {
        left = under n rows inside a j self.0;
        right = under n rows inside b j self.1;
        least = λ c p q. under n rows inside j c (rw e ((has_and (get_or rows a 0) (get_or rows b 0) c).1 (p.order, q.order)));
      }

  pub join_row : (a b j : ℕ) → Least (matrix n rows) a b j → get_or rows j 0 ≡ bit_and (get_or rows a 0) (get_or rows b 0)
  join_row a b j least = same_set (get_or rows j 0) (bit_and (get_or rows a 0) (get_or rows b 0)) (λ c. (to c, from c))
    where
      to : (c : ℕ) → Marked rows j c → Has (bit_and (get_or rows a 0) (get_or rows b 0)) c
      to c h =
          let up = under n rows inside j c h in
          (has_and (get_or rows a 0) (get_or rows b 0) c).1 ((ordered.transitive a j c least.left up).order, (ordered.transitive b j c least.right up).order)

      from : (c : ℕ) → Has (bit_and (get_or rows a 0) (get_or rows b 0)) c → Marked rows j c
      from c h =
          let both = (has_and (get_or rows a 0) (get_or rows b 0) c).0 h in
          (least.least c (under n rows inside a c both.0) (under n rows inside b c both.1)).order

  -- where a label with that row is sought, the join is found, or there is none
  pub join_found : (a b : ℕ) → a < n → b < n → (o : Option ℕ)
      → LabelOf n rows (bit_and (get_or rows a 0) (get_or rows b 0)) o → Joined (matrix n rows) (Joins (matrix n rows) a b) (ok_or o NoMeetOrJoin)
  join_found a b la lb None none = (refl, (a, b, la, lb, λ j least. none j least.left.high (join_row a b j least)))
  join_found a b la lb (Some j) (l, e) = (λ p q. row_join a b j l e, λ out. absurd (out (la, lb)))

-- m rows of zeros
zero_rows : (m a b : ℕ) → entry (replicate m (replicate 32 0)) a b ≡ 0
zero_rows zero a b = refl
zero_rows (suc m) zero b = zeros_at 32 b
zero_rows (suc m) (suc a) b = zero_rows m a b

module _ (n : ℕ) (rows : List ℕ) where
  -- the joins of a with the labels, and zeros behind them
  pub row_whole : (a : ℕ) (joins : List ℕ) → length joins ≡ n → ((b : ℕ) → b < n → Joins (matrix n rows) a b (get_or joins b 0))
      → JoinRow (matrix n rows) a (joins ++ drop n (replicate 32 0))
  row_whole a joins long joined = record {
    at = λ b. elim (dec_lt b n) [
      | yes l ↦ rw (get_or_append_left joins (drop n (replicate 32 0)) 0 b (omega arith)) (joined b l)
      | no ge ↦
          let beyond = get_or-append_right joins (drop n (replicate 32 0)) b 0 (omega arith) ∙ get_or-drop n (replicate 32 0) (b - length joins) 0 ∙ zeros_at 32 (n + (b - length joins)) in
          (λ p q. absurd (ge q), λ none. beyond)
    ];
  }

  -- the rows of joins of the labels, and rows of zeros behind them
  pub table_whole : (joins : List (List ℕ)) → length joins ≡ n → ((a : ℕ) → a < n → JoinRow (matrix n rows) a (get_or joins a []))
      → JoinsAll (matrix n rows) (joins ++ drop n (replicate 32 (replicate 32 0)))
  table_whole joins long joined = (
    λ a b la lb. rw (first a la) (((joined a la).at b).0 la lb),
    λ a b out. elim (dec_lt a n) [
      | yes l ↦ rw (first a l) (((joined a l).at b).1 out)
      | no ge ↦
          ap (λ (row : List ℕ). get_or row b 0) (get_or-append_right joins behind a [] (omega arith) ∙ get_or-drop n (replicate 32 (replicate 32 0)) (a - length joins) [])
          ∙ zero_rows 32 (n + (a - length joins)) b
    ],
  )
    where
      behind : List (List ℕ)
      behind = drop n (replicate 32 (replicate 32 0))

      first : (a : ℕ) → a < n → get_or (joins ++ behind) a [] ≡ get_or joins a []
      first a l = get_or_append_left joins behind [] a (omega arith)
