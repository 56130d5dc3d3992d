use Rattle.std.proofs.Common.{◌≡◌, ℕ, List, ◌++◌, ap, ◌∙◌, append_assoc, codes}
use Rattle.rule_reader.specs.Normal.{section_text, map_point_text, map_line_text, place_text, pair_text, element_text, turn_text}
use Rattle.rule_reader.proofs.printing.put_sections.Goals as goal

-- what was put before it stands before all that follows
before : (old text x more : List ℕ) → text ≡ old ++ x → text ++ more ≡ old ++ (x ++ more)
before old text x more e = ap (λ (t : List ℕ). t ++ more) e ∙ append_assoc old x more

eight : (o a b c d e f g h t1 t2 t3 t4 t5 t6 t7 t8 : List ℕ) → t1 ≡ o ++ a → t2 ≡ t1 ++ b → t3 ≡ t2 ++ c → t4 ≡ t3 ++ d → t5 ≡ t4 ++ e → t6 ≡ t5 ++ f → t7 ≡ t6 ++ g → t8 ≡ t7 ++ h
    → t8 ≡ o ++ (a ++ (b ++ (c ++ (d ++ (e ++ (f ++ (g ++ h)))))))
eight o a b c d e f g h t1 t2 t3 t4 t5 t6 t7 t8 p1 p2 p3 p4 p5 p6 p7 p8 =
    p8 ∙ before t6 t7 g h p7 ∙ before t5 t6 f (g ++ h) p6 ∙ before t4 t5 e (f ++ (g ++ h)) p5 ∙ before t3 t4 d (e ++ (f ++ (g ++ h))) p4 ∙ before t2 t3 c (d ++ (e ++ (f ++ (g ++ h)))) p3
    ∙ before t1 t2 b (c ++ (d ++ (e ++ (f ++ (g ++ h))))) p2 ∙ before o t1 a (b ++ (c ++ (d ++ (e ++ (f ++ (g ++ h)))))) p1

-- the sections as they stand in the rule
as_listed : {A : Type 0} (old new word : List ℕ) (text : A → List ℕ) (xs ys : List A) → xs ≡ ys → new ≡ old ++ section_text word text xs → new ≡ old ++ section_text word text ys
as_listed {A} old new word text xs ys same e = e ∙ ap (λ (l : List A). old ++ section_text word text l) same

pub returns : goal.returns
returns c =
    let r = c.args.rule.now in
    eight c.args.out.now.items (section_text (codes "mappoints\n") map_point_text r.points) (section_text (codes "maplines\n") map_line_text r.lines) (section_text (codes "newpoints\n") place_text r.new_points)
    (section_text (codes "newlines\n") pair_text r.new_lines) (section_text (codes "freearea\n") place_text r.area) (section_text (codes "freearea2\n") place_text r.limit) (section_text (codes "elements\n") element_text r.elements)
    (section_text (codes "orientations\n") turn_text r.turns) c.put_section.new.out.items c.put_section-2.new.out.items c.put_section-3.new.out.items c.put_section-4.new.out.items c.put_section-5.new.out.items c.put_section-6.new.out.items
    c.put_section-7.new.out.items c.put_section-8.new.out.items
    (as_listed c.args.out.now.items c.put_section.new.out.items (codes "mappoints\n") map_point_text c.as_slice.result.now r.points c.as_slice.ensures c.in_ok-put_section.ensures)
    (as_listed c.put_section.new.out.items c.put_section-2.new.out.items (codes "maplines\n") map_line_text c.as_slice-2.result.now r.lines c.as_slice-2.ensures c.in_ok-put_section-2.ensures)
    (as_listed c.put_section-2.new.out.items c.put_section-3.new.out.items (codes "newpoints\n") place_text c.as_slice-3.result.now r.new_points c.as_slice-3.ensures c.in_ok-put_section-3.ensures)
    (as_listed c.put_section-3.new.out.items c.put_section-4.new.out.items (codes "newlines\n") pair_text c.as_slice-4.result.now r.new_lines c.as_slice-4.ensures c.in_ok-put_section-4.ensures)
    (as_listed c.put_section-4.new.out.items c.put_section-5.new.out.items (codes "freearea\n") place_text c.as_slice-5.result.now r.area c.as_slice-5.ensures c.in_ok-put_section-5.ensures)
    (as_listed c.put_section-5.new.out.items c.put_section-6.new.out.items (codes "freearea2\n") place_text c.as_slice-6.result.now r.limit c.as_slice-6.ensures c.in_ok-put_section-6.ensures)
    (as_listed c.put_section-6.new.out.items c.put_section-7.new.out.items (codes "elements\n") element_text c.as_slice-7.result.now r.elements c.as_slice-7.ensures c.in_ok-put_section-7.ensures)
    (as_listed c.put_section-7.new.out.items c.put_section-8.new.out.items (codes "orientations\n") turn_text c.as_slice-8.result.now r.turns c.as_slice-8.ensures c.in_ok-put_section-8.ensures)
