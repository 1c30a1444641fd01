-- How the bytes of a derivation file spell its records.
use Rattle.std.specs.Prelude.{ℕ, List, [], ◌∷◌, ◌++◌, codes}
use Rattle.ld_terms.specs.Rule.{EqRule, Rule}
use Rattle.ld_terms.specs.Record.{Record, numbers_before, name_of, numbers_behind}
use Rattle.dr_text.specs.Number.{number}

abbrev pub equal_tag : EqRule → ℕ
equal_tag EqRule.Refl = 0x20
equal_tag (EqRule.Sym e) = 0x21
equal_tag (EqRule.Trans e e') = 0x22
equal_tag EqRule.Beta = 0x23
equal_tag EqRule.Delta = 0x24
equal_tag (EqRule.App e e') = 0x25
equal_tag (EqRule.Lam e e') = 0x26
equal_tag (EqRule.Pi e e') = 0x27
equal_tag (EqRule.Const es) = 0x28

abbrev pub node_tag : Rule → ℕ
node_tag Rule.Sort = 0x30
node_tag (Rule.Var n) = 0x31
node_tag (Rule.Weak n n') = 0x32
node_tag (Rule.Form n n') = 0x33
node_tag (Rule.Appl n n') = 0x34
node_tag (Rule.Abst n n') = 0x35
node_tag (Rule.Conv n n' e) = 0x36
node_tag (Rule.Def n) = 0x37
node_tag (Rule.DefPrim n) = 0x38
node_tag (Rule.Inst n ns) = 0x39
node_tag (Rule.InstPrim n ns) = 0x3a

abbrev pub tag : Record → ℕ
tag Record.Star = 0x01
tag Record.Box = 0x02
tag (Record.Var i) = 0x03
tag (Record.App t u) = 0x04
tag (Record.Lam t u) = 0x05
tag (Record.Pi t u) = 0x06
tag (Record.Const k ts) = 0x07
tag (Record.Context c t) = 0x10
tag (Record.Equal l r rule) = equal_tag rule
tag (Record.Node m c t u rule) = node_tag rule
tag (Record.Entry name n) = 0x40
tag (Record.PrimEntry name n) = 0x41
tag (Record.Flag n) = 0x50
tag (Record.End n) = 0x60

-- the bytes of some numbers, one after another
abbrev pub numbers_bytes : List ℕ → List ℕ
numbers_bytes [] = []
numbers_bytes (n ∷ ns) = number n ++ numbers_bytes ns

-- a record is its tag and its numbers, with its name between them
abbrev pub record_bytes : Record → List ℕ
record_bytes r = tag r ∷ (numbers_bytes (numbers_before r) ++ (name_of r ++ numbers_bytes (numbers_behind r)))

abbrev pub records_bytes : List Record → List ℕ
records_bytes [] = []
records_bytes (r ∷ rs) = record_bytes r ++ records_bytes rs

abbrev pub header : List ℕ
header = codes "LDDERIV1"

-- the bytes of a list of records, behind the header
abbrev pub spelling : List Record → List ℕ
spelling rs = header ++ records_bytes rs
