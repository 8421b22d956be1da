use Rattle.std.proofs.Common.{◌≡◌, ℕ, ◌+◌, ◌*◌, List, [], ◌∷◌, ◌++◌, length, set, sym, ap, ◌∙◌, append_assoc, arith, length-append, rules}
use Rattle.records.specs.Instance.{Instance}
use Rattle.records.specs.Meaning.{instance}
use Rattle.trace.proofs.Puts.{byte_put, cell_bytes_append, length_front, length_written, no_operator, no_written, operator_put, put, put_more, put_rest, written_put}
use Rattle.trace.specs.Layouts.{Fields, bit, byte_of, if_set}
use Rattle.trace.specs.Writing.{cell_bytes, over}
use Rattle.trace.proofs.layout.Layout.write.Goals.{then-self, else-self, then-self-2, else-self-2}
use Rattle.trace.proofs.layout.Layout.write.Goals as goal

pub returns : goal.returns
returns c =
    let y : Fields = c.args.self.now in
    let i : Instance = instance c.args.«record».now in
    let out : List ℕ = c.args.out.now in
    let has_operator : y.operator ≡ c.self.inside.operator = sym (ap (λ (f : Fields). f.operator) c.self.view_is) in
    let has_written : y.written ≡ c.self-2.inside.written = sym (ap (λ (f : Fields). f.written) c.self-2.view_is) in
    let front : List ℕ = byte_of y ∷ if_set y.operator i.operator in
    let cell : List ℕ = cell_bytes (if_set y.written i.written) in
    let first : ℕ = c.first_cell-first.result in
    let w : c.from-2.result ≡ bit y.written = search rules in
    let at : first ≡ length front = c.first_cell-first.ensures ∙ sym (length_front y.operator (byte_of y) i.operator) in
    let past : first + 2 * c.from-2.result ≡ length (front ++ cell) = omega (arith, at, w, length-append front cell, length_written y.written i.written) in
    let byte = byte_put c.from.result out (omega arith) ∙ ap (λ (x : ℕ). over (x ∷ []) out) (c.from.ensures ∙ ap byte_of c.self.view_is) in
    let operator : c.if-self.out ≡ over front out =
    elim c.if-self.branch [
      | then-self w ↦
          w.out-is ∙ ((λ j. set (byte j) 1 (w.operator.ensures.value j)) ∙ operator_put y.operator (byte_of y) i.operator out (has_operator ∙ w.if-self.true) (omega (arith, ap bit (has_operator ∙ w.if-self.true))))
      | else-self w ↦
          w.out-is ∙ (byte ∙ ap (λ (l : List ℕ). over l out) (no_operator y.operator (byte_of y) i.operator (has_operator ∙ w.if-self.false)))
    ] in
    let written : c.if-self-2.out ≡ over (front ++ cell) out =
    elim c.if-self-2.branch [
      | then-self-2 w ↦
          w.out-is
          ∙ (put_rest first (cell_bytes (w.written.result ∷ [])) w.write_cells.new.out c.if-self.out w.write_cells.ensures
          ∙ ((λ j. put first (cell_bytes (w.written.ensures j ∷ [])) (operator j)) ∙ written_put y.written i.written first front out (has_written ∙ w.if-self-2.true) at))
      | else-self-2 w ↦
          w.out-is ∙ (operator ∙ ap (λ (l : List ℕ). over l out) (no_written y.written i.written front (has_written ∙ w.if-self-2.false)))
    ] in
    put_rest (first + 2 * c.from-2.result) (cell_bytes c.reads.result.now) c.write_cells-2.new.out c.if-self-2.out c.write_cells-2.ensures
    ∙ ((λ j. put (first + 2 * c.from-2.result) (cell_bytes (c.reads.ensures.cells j)) (written j))
    ∙ (put_more (front ++ cell) (cell_bytes i.reads) out (first + 2 * c.from-2.result) past
    ∙ ap (λ (l : List ℕ). over l out) (append_assoc front cell (cell_bytes i.reads) ∙ ap (λ (l : List ℕ). front ++ l) (sym (cell_bytes_append (if_set y.written i.written) i.reads)))))
