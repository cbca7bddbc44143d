mod Module
