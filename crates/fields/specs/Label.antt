-- The field of a label, in books and sheets alike (01: "label (0 to 255)"; 02, 2026-02: version 2 "has 2-byte labels").
use Rattle.std.specs.Prelude.{cond, ℕ, eqb}

-- How many bytes a label takes in version v of either format.
unfoldable pub label_width : ℕ → ℕ
label_width v = cond (eqb v 1) 1 2
