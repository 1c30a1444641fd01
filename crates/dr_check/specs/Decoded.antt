-- The record with a tag, numbers and a name. Numbers that are missing count as 0, and tags that no record has as others.
use Rattle.std.specs.Prelude.{ℕ, List, [], ◌∷◌, nat_eq, nat_lt, if◌then◌else◌}
use Rattle.ld_terms.specs.Rule.{EqRule, Rule}
use Rattle.ld_terms.specs.Record.{Record}
use Rattle.dr_text.specs.Read.{Parts}

abbrev pub first : List ℕ → ℕ
first [] = 0
first (n ∷ ns) = n

abbrev pub others : List ℕ → List ℕ
others [] = []
others (n ∷ ns) = ns

abbrev pub second : List ℕ → ℕ
second ns = first (others ns)

abbrev pub third : List ℕ → ℕ
third ns = second (others ns)

abbrev pub fourth : List ℕ → ℕ
fourth ns = third (others ns)

abbrev pub term_by : (tag : ℕ) → List ℕ → Record
term_by tag ns =
    if nat_eq tag 0x01 then Record.Star
    else if nat_eq tag 0x02 then Record.Box
    else if nat_eq tag 0x03 then Record.Var (first ns)
    else if nat_eq tag 0x04 then Record.App (first ns) (second ns)
    else if nat_eq tag 0x05 then Record.Lam (first ns) (second ns)
    else if nat_eq tag 0x06 then Record.Pi (first ns) (second ns)
    else Record.Const (first ns) (others (others ns))

abbrev pub eq_rule_by : (tag : ℕ) → List ℕ → EqRule
eq_rule_by tag ns =
    if nat_eq tag 0x20 then EqRule.Refl
    else if nat_eq tag 0x21 then EqRule.Sym (first ns)
    else if nat_eq tag 0x22 then EqRule.Trans (first ns) (second ns)
    else if nat_eq tag 0x23 then EqRule.Beta
    else if nat_eq tag 0x24 then EqRule.Delta
    else if nat_eq tag 0x25 then EqRule.App (first ns) (second ns)
    else if nat_eq tag 0x26 then EqRule.Lam (first ns) (second ns)
    else if nat_eq tag 0x27 then EqRule.Pi (first ns) (second ns)
    else EqRule.Const (others ns)

abbrev pub rule_by : (tag : ℕ) → List ℕ → Rule
rule_by tag ns =
    if nat_eq tag 0x30 then Rule.Sort
    else if nat_eq tag 0x31 then Rule.Var (first ns)
    else if nat_eq tag 0x32 then Rule.Weak (first ns) (second ns)
    else if nat_eq tag 0x33 then Rule.Form (first ns) (second ns)
    else if nat_eq tag 0x34 then Rule.Appl (first ns) (second ns)
    else if nat_eq tag 0x35 then Rule.Abst (first ns) (second ns)
    else if nat_eq tag 0x36 then Rule.Conv (first ns) (second ns) (third ns)
    else if nat_eq tag 0x37 then Rule.Def (first ns)
    else if nat_eq tag 0x38 then Rule.DefPrim (first ns)
    else if nat_eq tag 0x39 then Rule.Inst (first ns) (others (others ns))
    else Rule.InstPrim (first ns) (others (others ns))

abbrev pub last_by : (tag : ℕ) (name : List ℕ) → List ℕ → Record
last_by tag name ns =
    if nat_eq tag 0x40 then Record.Entry name (second ns)
    else if nat_eq tag 0x41 then Record.PrimEntry name (second ns)
    else if nat_eq tag 0x50 then Record.Flag (first ns)
    else Record.End (first ns)

abbrev pub record_by : Parts → Record
record_by parts =
    let ns = parts.numbers in
    if nat_lt parts.tag 0x10 then term_by parts.tag ns
    else if nat_lt parts.tag 0x20 then Record.Context (first ns) (second ns)
    else if nat_lt parts.tag 0x30 then Record.Equal (first ns) (second ns) (eq_rule_by parts.tag (others (others ns)))
    else if nat_lt parts.tag 0x40 then Record.Node (first ns) (second ns) (third ns) (fourth ns) (rule_by parts.tag (others (others (others (others ns)))))
    else last_by parts.tag parts.name ns
